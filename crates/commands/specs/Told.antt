-- What the code's enum says of a command whose bytes are d.
use Rattle.std.specs.Prelude.{ℕ, List}
use Rattle.commands.specs.Command as S
use Rattle.commands.specs.declared.decoding.Command.{Command}
use Rattle.commands.specs.declared.decoding.Command.TheVariants.{Plain, Fixed}
use Rattle.commands.specs.declared.decoding.PlainCommand.{PlainCommand}
use Rattle.commands.specs.declared.decoding.PlainCommand.TheVariants.{PalPair, AttrBlk, AttrLin, AttrDiv, AttrChr, MltReq, MaskEn, Nothing}
use Rattle.commands.specs.declared.decoding.FixedCommand.{FixedCommand}
use Rattle.commands.specs.declared.decoding.FixedCommand.TheVariants.{PalSet, AttrSet, Freeze, Transfer}

unfoldable pub told_plain : PlainCommand → List ℕ → S.Plain
told_plain (PalPair a b) d = S.pal_pair a b d
told_plain AttrBlk d = S.attr_blk d
told_plain AttrLin d = S.attr_lin d
told_plain AttrDiv d = S.attr_div d
told_plain AttrChr d = S.attr_chr d
told_plain (MltReq b) d = S.mlt_req b
told_plain (MaskEn m) d = S.mask_en m
told_plain Nothing d = S.nothing

unfoldable pub told_fixed : FixedCommand → List ℕ → S.Fixed
told_fixed PalSet d = S.pal_set d
told_fixed AttrSet d = S.attr_set d
told_fixed Freeze d = S.freeze
told_fixed (Transfer t) d = S.transfer t

unfoldable pub told : Command → List ℕ → S.Command
told (Plain c) d = S.plain (told_plain c d)
told (Fixed c) d = S.fixed (told_fixed c d)
