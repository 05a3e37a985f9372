-- Past each rule whose test holds; the byte of the first that fails.
use mathlib.Core.List.{[]}
use mathlib.Core.Path.{ap, sym, ◌∙◌}
use Rattle.broken.specs.Broken.{number_of}
use Rattle.broken.proofs.Numbers.{told-1, told-2, told-3, told-4, told-5, told_none}
use Rattle.block_broken.proofs.broken_front.Goals as goal

pub returns-then-not-v1 : goal.returns-then-not-v1
returns-then-not-v1 c =
    let b = c.args.block.now in
    let f = sym c.v1.ensures ∙ c.if-not-v1.true in
    c.broken_at.ensures ∙ ap (number_of 21) c.at_v1.ensures ∙ told-1 b [] f

pub returns-then-not-v2 : goal.returns-then-not-v2
returns-then-not-v2 c =
    let b = c.args.block.now in
    let h1 = sym c.v1.ensures ∙ c.if-not-v1.false in
    let f = sym c.v2.ensures ∙ c.if-not-v2.true in
    c.broken_at-then-not-v2.ensures ∙ ap (number_of 22) c.at_v2.ensures ∙ told-2 b [] h1 f

pub returns-then-not-v3 : goal.returns-then-not-v3
returns-then-not-v3 c =
    let b = c.args.block.now in
    let h1 = sym c.v1.ensures ∙ c.if-not-v1.false in
    let h2 = sym c.v2.ensures ∙ c.if-not-v2.false in
    let f = sym c.v3.ensures ∙ c.if-not-v3.true in
    c.broken_at-then-not-v3.ensures ∙ ap (number_of 23) c.at_v3.ensures ∙ told-3 b [] h1 h2 f

pub returns-then-not-v4 : goal.returns-then-not-v4
returns-then-not-v4 c =
    let b = c.args.block.now in
    let h1 = sym c.v1.ensures ∙ c.if-not-v1.false in
    let h2 = sym c.v2.ensures ∙ c.if-not-v2.false in
    let h3 = sym c.v3.ensures ∙ c.if-not-v3.false in
    let f = sym c.v4.ensures ∙ c.if-not-v4.true in
    c.broken_at-then-not-v4.ensures ∙ ap (number_of 24) c.at_v4.ensures ∙ told-4 b [] h1 h2 h3 f

pub returns-then-not-v5 : goal.returns-then-not-v5
returns-then-not-v5 c =
    let b = c.args.block.now in
    let h1 = sym c.v1.ensures ∙ c.if-not-v1.false in
    let h2 = sym c.v2.ensures ∙ c.if-not-v2.false in
    let h3 = sym c.v3.ensures ∙ c.if-not-v3.false in
    let h4 = sym c.v4.ensures ∙ c.if-not-v4.false in
    let f = sym c.v5.ensures ∙ c.if-not-v5.true in
    c.broken_at-then-not-v5.ensures ∙ ap (number_of 25) c.at_v5.ensures ∙ told-5 b [] h1 h2 h3 h4 f

pub returns : goal.returns
returns c =
    let b = c.args.block.now in
    let h1 = sym c.v1.ensures ∙ c.if-not-v1.false in
    let h2 = sym c.v2.ensures ∙ c.if-not-v2.false in
    let h3 = sym c.v3.ensures ∙ c.if-not-v3.false in
    let h4 = sym c.v4.ensures ∙ c.if-not-v4.false in
    let h5 = sym c.v5.ensures ∙ c.if-not-v5.false in
    told_none b h1 h2 h3 h4 h5
