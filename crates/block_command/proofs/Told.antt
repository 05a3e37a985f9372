-- Which command the decoded one is, and what is known of it. And a command on the block of a good unit.
use mathlib.Core.Path.{◌≡◌, sym, ap, ◌∙◌, subst, subst⁻¹}
use mathlib.Core.List.{List}
use Prim.Native.Nat.{ℕ, ◌<◌}
use Rattle.attribute_map.specs.Data.{Whole}
use Rattle.commands.specs.Command as command
use Rattle.commands.specs.Command.{fixed, plain, mask_en, decode}
use Rattle.commands.specs.Good.{GoodPlain, GoodCommand}
use Rattle.commands.specs.Told.{told, told_plain, told_fixed}
use Rattle.commands.specs.declared.decoding.Command.{Command}
use Rattle.commands.specs.declared.decoding.Command.TheVariants.{Plain, Fixed}
use Rattle.commands.specs.declared.decoding.PlainCommand.{PlainCommand}
use Rattle.commands.specs.declared.decoding.PlainCommand.TheVariants.{PalPair, MaskEn}
use Rattle.commands.specs.declared.decoding.FixedCommand.{FixedCommand}
use Rattle.commands.proofs.Decoded.{decode-good}
use Rattle.layout.specs.Block.{load, save}
use Rattle.layout.specs.Good.{Good}
use Rattle.layout.specs.Sgb.{Sgb}
use Rattle.layout.proofs.Goods.{good-back}
use Rattle.rules.specs.Carry.{carried}
use Rattle.block_plain.specs.Carrying.{carried_block}

pub plain-told : (r : Command) (p : PlainCommand) (d : List ℕ) → r ≡ Plain p → told r d ≡ decode d → plain (told_plain p d) ≡ decode d
unfolding told
plain-told r p d e q = ap (λ (x : Command). told x d) (sym e) ∙ q

pub fixed_told : (r : Command) (f : FixedCommand) (d : List ℕ) → r ≡ Fixed f → told r d ≡ decode d → fixed (told_fixed f d) ≡ decode d
unfolding told
fixed_told r f d e q = ap (λ (x : Command). told x d) (sym e) ∙ q

pub plain-good : (p : PlainCommand) (d : List ℕ) → Whole d → plain (told_plain p d) ≡ decode d → GoodPlain (told_plain p d)
plain-good p d w e = subst⁻¹ (λ (c : command.Command). GoodCommand c) e (decode-good d w)

-- a pair of palettes is among the four
pub pair-few : (c : PlainCommand) (a b : ℕ) (d : List ℕ) → c ≡ PalPair a b → GoodPlain (told_plain c d) → (a < 4) × (b < 4)
unfolding told_plain
pair-few c a b d e g = let h = subst (λ (x : PlainCommand). GoodPlain (told_plain x d)) e g in (h.0, h.1)

-- a plain MASK_EN is in a mode below 4 that is no freeze
pub mask-plain : (c : PlainCommand) (m : ℕ) (d : List ℕ) → c ≡ MaskEn m → GoodPlain (told_plain c d) → GoodPlain (mask_en m)
unfolding told_plain
mask-plain c m d e g = subst (λ (x : PlainCommand). GoodPlain (told_plain x d)) e g

-- ---- a command on the block of a good unit leaves the block of that unit with the command carried out

pub carried-good : (u : Sgb) → Good u → (c : command.Command) (m x : List ℕ) → m ≡ save u → x ≡ carried_block c m → x ≡ save (carried c u)
unfolding carried_block
carried-good u g c m x e h = h ∙ ap (λ (w : Sgb). save (carried c w)) (ap load e ∙ good-back u g)
