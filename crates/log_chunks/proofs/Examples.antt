-- The example of RULES 8.5, of the whole definition, computed: what `replay` prints of the input `01003020`.
use mathlib.Core.Path.{◌≡◌, refl}
use mathlib.Core.List.{[], ◌∷◌}
use Rattle.bits.specs.Bit.{bit_of}
use Rattle.hex_digits.specs.Hex.{nibble, before, paired, bytes_of, capital, hex_text}
use Rattle.log_text.specs.Text.{hex_line}
use Rattle.log_line.specs.Line.{by_kind, by_bytes, meaning_of}
use Rattle.log_line.specs.Lines.{last_line, lines_from, lines_of}
use Rattle.receiver.specs.Lines.{p14_high, p15_high, both_high, pulse_by, pulse_of, indexed}
use Rattle.receiver.specs.Receive as receive
use Rattle.receiver.specs.Store as store
use Rattle.receiver.specs.Port.{answered, wrote}
use Rattle.transfer.specs.Pending as pending
use Rattle.layout.specs.Block.{save, is_held, held_bytes}
use Rattle.layout.specs.Fresh.{fresh}
use Rattle.rules.specs.Carry.{with_pads, plainly, carried_game, carried_snes, carried}
use Rattle.rules.specs.Write.{advanced, meant, carries, stepped, written, answer}
use Rattle.log_chunks.specs.Events.{answer_events, write_events, after_writes, line_events, after_line, events_from, after_lines, meanings, events_of, unit_after}
use Rattle.log_chunks.specs.Texts.{shown, head_line, replay_text}

-- `00000001000100000101000000` and LF
pub worked : replay_text (48 ∷ 49 ∷ 48 ∷ 48 ∷ 51 ∷ 48 ∷ 50 ∷ 48 ∷ [])
    ≡ 48 ∷ 48 ∷ 48 ∷ 48 ∷ 48 ∷ 48 ∷ 48 ∷ 49 ∷ 48 ∷ 48 ∷ 48 ∷ 49 ∷ 48 ∷ 48 ∷ 48 ∷ 48 ∷ 48 ∷ 49 ∷ 48 ∷ 49 ∷ 48 ∷ 48 ∷ 48 ∷ 48 ∷ 48 ∷ 48 ∷ 10 ∷ []
unfolding replay_text shown head_line hex_line hex_text capital bit_of nibble before paired bytes_of by_kind by_bytes meaning_of last_line lines_from lines_of p14_high p15_high both_high pulse_by pulse_of indexed receive.idle receive.begun receive.restarted receive.data_bit receive.quiet receive.clocked receive.when_idle receive.when_receiving receive.pulsed receive.after_pulse receive.stage_number store.filed store.answer_of store.emptied answered wrote pending.countdown_of pending.kind_of save is_held held_bytes fresh with_pads plainly carried_game carried_snes carried advanced meant carries stepped written answer answer_events write_events after_writes line_events after_line events_from after_lines meanings events_of unit_after
worked = refl
