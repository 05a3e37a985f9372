-- `log_line::parse` meets its contract: the kind tells the form, and the digits past the first two are decoded.
use mathlib.Core.Path.{◌≡◌, sym, ◌∙◌}
use native.Mathlib.Omega.{arith}
use lib.ListN.{length-take, length-drop}
use Rattle.std.proofs.lemmas.Result.{err_from_is_err_and}
use Rattle.refusal.specs.declared.Refusal.TheVariants as R
use Rattle.log_line.proofs.Told.{kind-refused, kind-taken, past-kind}
use Rattle.log_line.proofs.Told.{answers-short, answers-refused, answers-screen, answers-writes}
use Rattle.bits.proofs.Named.{as-result_value-bytes_after}
use Rattle.log_line.proofs.parse.Goals as goal

pub returns-then-bytes-lt-CAPTURE_BYTES : goal.returns-then-bytes-lt-CAPTURE_BYTES
returns-then-bytes-lt-CAPTURE_BYTES c = as-result_value-bytes_after (answers-short c.args.text.now c.args.bytes.now (omega arith))

pub returns-in_err-kind : goal.returns-in_err-kind
returns-in_err-kind c =
    let s = c.args.text.now in
    let h = kind-refused s (sym c.in_err-kind.ensures.ok_part ∙ c.kind_of.ensures) in
    let p = err_from_is_err_and c.from_residual.result c.from_residual.ensures.1 in
    let v = rw c.in_err-kind.ensures.ok_part at c.in_err-kind.ensures.value in
    let e : c.in_err-kind.field-0.0 ≡ R.Line = cc in
    as-result_value-bytes_after (rw (p.1, p.2, e) (answers-refused s c.args.bytes.now (omega arith) h))

pub slice_bounds-decode-count : goal.slice_bounds-decode-count
slice_bounds-decode-count c =
    let t = kind-taken c.args.text.now c.in_ok-kind.kind (sym c.in_ok-kind.ensures.ok_part ∙ c.kind_of.ensures) in
    t.body.long

pub slice_bounds-decode-start : goal.slice_bounds-decode-start
slice_bounds-decode-start c =
    let t = kind-taken c.args.text.now c.in_ok-kind.kind (sym c.in_ok-kind.ensures.ok_part ∙ c.kind_of.ensures) in
    t.body.long

pub decode-requires : goal.decode-requires
decode-requires c =
    let s = c.args.text.now in
    let t = kind-taken s c.in_ok-kind.kind (sym c.in_ok-kind.ensures.ok_part ∙ c.kind_of.ensures) in
    record { text_value = rw (past-kind s) t.body.rest; text_len_bound = simp (length-take, length-drop) (omega arith) }

pub overflow_sub-result : goal.overflow_sub-result
overflow_sub-result c =
    let t = kind-taken c.args.text.now c.in_ok-kind.kind (sym c.in_ok-kind.ensures.ok_part ∙ c.kind_of.ensures) in
    omega (arith, t.body.long)

pub returns-in-Writes : goal.returns-in-Writes
returns-in-Writes c =
    let s = c.args.text.now in
    let t = kind-taken s c.in_ok-kind.kind (sym c.in_ok-kind.ensures.ok_part ∙ c.kind_of.ensures) in
    as-result_value-bytes_after (answers-writes s c.args.bytes.now (omega arith) _ (rw (past-kind s) at c.decode.ensures) _ (omega arith) (rw c.in-Writes.is at t.means))

pub returns-in-Screen : goal.returns-in-Screen
returns-in-Screen c =
    let s = c.args.text.now in
    let t = kind-taken s c.in_ok-kind.kind (sym c.in_ok-kind.ensures.ok_part ∙ c.kind_of.ensures) in
    as-result_value-bytes_after (answers-screen s c.args.bytes.now (omega arith) _ (rw (past-kind s) at c.decode.ensures) (rw c.in-Screen.is at t.means))
