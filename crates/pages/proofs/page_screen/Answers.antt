-- The tests in their order, and then the screen at the front.
use native.Mathlib.Omega.{arith}
use Rattle.pages.proofs.Calling.{no-page, no_room, made}
use Rattle.bits.proofs.Named.{as-result_value-screen_after}
use Rattle.pages.proofs.page_screen.Goals as goal

pub returns-then-page-ne-PAGE_BYTES : goal.returns-then-page-ne-PAGE_BYTES
returns-then-page-ne-PAGE_BYTES c = as-result_value-screen_after (no-page _ _ (λ e. absurd (omega arith)))

pub returns-then-screen-lt-CAPTURE_BYTES : goal.returns-then-screen-lt-CAPTURE_BYTES
returns-then-screen-lt-CAPTURE_BYTES c = as-result_value-screen_after (no_room _ _ (omega arith) (omega arith))

pub returns : goal.returns
returns c = as-result_value-screen_after (made _ _ _ (omega arith) (omega arith) c.draw.ensures)
