-- A command sent to a unit by the public calls, pulse by pulse, to a block that holds no earlier packet (`NoneHeld` of the crate `pulses`): what
-- each write answers, and what the command makes of the block. RULES 9.2, demand 2. The theorem is
-- `calls-round-trip` of proofs/Trip.
use Rattle.std.specs.Prelude.{ℕ, zero, suc, ◌+◌, ◌-◌, ◌*◌, List, [], ◌∷◌, ◌++◌, length, drop, replicate}
use Rattle.std.proofs.Math.Option.{none, some}
use Rattle.receiver.specs.Rises.{rises}
use Rattle.pulses.specs.Answer.{given}
use Rattle.pulses.specs.Bytes.{packets_in}
use Rattle.pulses.specs.Encode.{bits_in}
use Rattle.pulses.specs.Trip.{resting}
use Rattle.commands.specs.Command.{decode}
use Rattle.layout.specs.Block.{load, save}
use Rattle.layout.specs.Sgb.{Sgb}
use Rattle.rules.specs.Carry.{with_pads, carried}
use Rattle.unit.specs.Together.{Performed}

-- ---- the joypad index

unfoldable pub ones : List ℕ → ℕ
ones [] = 0
ones (zero ∷ bs) = ones bs
ones (suc b ∷ bs) = suc (ones bs)

-- how often a command's pulses raise P15: it is low at a packet's start and at a bit that is one, and high again at the release of each
unfoldable pub rises_in : List ℕ → ℕ
rises_in c = packets_in c + ones (bits_in c)

-- ---- the unit

-- the unit with a command's pulses behind it and nothing carried out: the port is at rest, and every rise has moved the joypad index
unfoldable pub arrived : Sgb → List ℕ → Sgb
arrived u c = record { port = resting; game = with_pads (rises (rises_in c) u.game.index u.game.pads) u.game.pads u.game; snes = u.snes }

-- the unit after a command: all of its rises come before its last stop pulse, at which it is carried out
unfoldable pub sent_to : Sgb → List ℕ → Sgb
sent_to u c = carried (decode c) (arrived u c)

-- ---- the calls

-- 260 writes a packet: none answers up to the last stop pulse, which answers the command, at the buffer's front; its release doesn't answer
unfoldable pub returned : List ℕ → List ℕ → List ℕ → Performed
returned b buffer c = record {
  block = save (sent_to (load b) c);
  buffer = c ++ drop (length c) buffer;
  replies =
      replicate (260 * packets_in c - 2) (record { answer = given none; buffer = buffer })
      ++ (record { answer = given (some (packets_in c)); buffer = c ++ drop (length c) buffer }
      ∷ record { answer = given none; buffer = c ++ drop (length c) buffer }
      ∷ []);
  sights = [];
}
