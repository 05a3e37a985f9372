-- A colour is told by its word, and so is an entry of the border's map.
use Rattle.bits.specs.Determined.{Once}
use Rattle.colour.specs.declared.Rgb555.{Rgb555}
use Rattle.colour.specs.declared.BorderMapEntry.{BorderMapEntry}

pub word_of : Once (λ (c : Rgb555). c.0)
word_of c d e = λ t. record { 0 = e t }

pub entry_of : Once (λ (c : BorderMapEntry). c.0)
entry_of c d e = λ t. record { 0 = e t }
