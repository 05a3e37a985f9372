-- Each in its place, and zeros where nothing is.
use mathlib.Core.List.{◌++◌}
use mathlib.Core.Path.{refl, ap, ◌∙◌}
use Prim.Native.Nat.{◌-◌}
use borrow.Author.Tests.{eq-eqb, ne_eqb}
use lib.ListN.{length, replicate}
use Rattle.bits.specs.Over.{over}
use Rattle.layout.specs.Block.{is_held}
use Rattle.parts.specs.Parts.{packet_at, store_at, store_bytes, preset_at}
use Rattle.state_spans.specs.State.{bytes_in}
use Rattle.state_spans.specs.Told.{span_told}
use Rattle.state_spans.specs.Coming.{header_from, store_from, preset_from, front_from}
use Rattle.state_in.proofs.Fronts.{front_made, preset_made}
use Rattle.state_in.proofs.Spanned.{headed, held-some}
use Rattle.state_spans.proofs.Blocks.{store_long}
use Rattle.state_in.proofs.fill_front.Goals as goal

pub returns-then-spans-eq1 : goal.returns-then-spans-eq1
unfolding front_from store_from preset_from
returns-then-spans-eq1 c = let s = c.args.spans.now in
    let p = c.requires in
    let h = header_from s.fields.now (is_held (span_told s.frozen_capture)) in
    let packet = bytes_in (span_told s.packet) in
    let packets = bytes_in (span_told s.packets) in
    let preset = bytes_in (span_told s.preset) in
    let header = c.fill_header.ensures ∙ ap (headed s.fields.now) (held-some s.frozen_capture c.is_some.result c.is_some.ensures) in
    let first = c.put.ensures ∙ (λ t. over packet_at ((ap length c.bytes_in.ensures ∙ p.1.1.0) t) (c.bytes_in.ensures t) (header t)) in
    let second = c.put-2.ensures ∙ (λ t. over store_at (length (c.bytes_in-2.ensures t)) (c.bytes_in-2.ensures t) (first t)) ∙ front_made h packet packets refl p.1.1.0 p.1.1.1.0 in
    let set = eq-eqb _ _ c.if-spans-eq1.true in
    let third = c.put-then-spans-eq1.ensures ∙ (λ t. over preset_at ((ap length c.bytes_in-then-spans-eq1.ensures ∙ p.1.1.1.1 set) t) (c.bytes_in-then-spans-eq1.ensures t) (second t)) in
    rw set (third ∙ preset_made h packet (packets ++ replicate (store_bytes - length packets) 0) preset refl p.1.1.0 (store_long packets p.1.1.1.0) (p.1.1.1.1 set))

pub returns-else-spans-eq1 : goal.returns-else-spans-eq1
unfolding front_from store_from preset_from
returns-else-spans-eq1 c = let s = c.args.spans.now in
    let p = c.requires in
    let h = header_from s.fields.now (is_held (span_told s.frozen_capture)) in
    let packet = bytes_in (span_told s.packet) in
    let packets = bytes_in (span_told s.packets) in
    let header = c.fill_header.ensures ∙ ap (headed s.fields.now) (held-some s.frozen_capture c.is_some.result c.is_some.ensures) in
    let first = c.put.ensures ∙ (λ t. over packet_at ((ap length c.bytes_in.ensures ∙ p.1.1.0) t) (c.bytes_in.ensures t) (header t)) in
    let second = c.put-2.ensures ∙ (λ t. over store_at (length (c.bytes_in-2.ensures t)) (c.bytes_in-2.ensures t) (first t)) ∙ front_made h packet packets refl p.1.1.0 p.1.1.1.0 in
    rw (ne_eqb _ _ c.if-spans-eq1.false) second
