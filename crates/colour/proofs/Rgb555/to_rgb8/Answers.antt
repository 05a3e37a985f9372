-- `Rgb555::to_rgb8` meets its contract: each channel is the ramp at its five bits, which a shift and a mask take out.
use Prim.Native.Nat.{◌/◌}
use mathlib.Core.Path.{◌∙◌, ap}
use lib.Bits.{and_mask, mask_lt}
use Rattle.colour.specs.Colour.{red, green, blue, ramp, rgb8}
use Rattle.colour.proofs.Rgb555.to_rgb8.Goals as goal

pub brightness-requires : goal.brightness-requires
brightness-requires c = mask_lt c.args.self.0 5

pub brightness-requires-2 : goal.brightness-requires-2
brightness-requires-2 c = mask_lt (c.args.self.0 / 32) 5

pub brightness-requires-3 : goal.brightness-requires-3
brightness-requires-3 c = mask_lt (c.args.self.0 / 1024) 5

pub returns : goal.returns
unfolding rgb8 red green blue
returns c =
    let w = c.args.self.0 in
    λ t.
    record {
      r = (c.brightness.ensures ∙ ap ramp (and_mask w 5)) t;
      g = (c.brightness-2.ensures ∙ ap ramp (and_mask (w / 32) 5)) t;
      b = (c.brightness-3.ensures ∙ ap ramp (and_mask (w / 1024) 5)) t;
    }
