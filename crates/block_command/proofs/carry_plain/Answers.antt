-- Each arm knows which command it is, and its worker does that.
use mathlib.Core.Path.{◌∙◌}
use Rattle.commands.specs.Told.{told_plain}
use Rattle.block_plain.proofs.Carried.{nothing-done}
use Rattle.block_command.proofs.Told.{pair-few, mask-plain}
use Rattle.block_command.proofs.carry_plain.Goals as goal

pub pal_pair-requires : goal.pal_pair-requires
pal_pair-requires c =
    let start = c in
    let few = pair-few _ _ _ _ c.in-PalPair.is start.requires.2 in
    (start.requires.0, start.requires.1, few.0, few.1)

pub mask_en-requires : goal.mask_en-requires
mask_en-requires c =
    let start = c in
    (start.requires.0, mask-plain _ _ _ c.in-MaskEn.is start.requires.2)

pub returns-in-PalPair : goal.returns-in-PalPair
unfolding told_plain
returns-in-PalPair c = c.pal_pair.ensures ∙ rw c.in-PalPair.is

pub returns-in-AttrBlk : goal.returns-in-AttrBlk
unfolding told_plain
returns-in-AttrBlk c = c.attr_blk.ensures ∙ rw c.in-AttrBlk.is

pub returns-in-AttrLin : goal.returns-in-AttrLin
unfolding told_plain
returns-in-AttrLin c = c.attr_lin.ensures ∙ rw c.in-AttrLin.is

pub returns-in-AttrDiv : goal.returns-in-AttrDiv
unfolding told_plain
returns-in-AttrDiv c = c.attr_div.ensures ∙ rw c.in-AttrDiv.is

pub returns-in-AttrChr : goal.returns-in-AttrChr
unfolding told_plain
returns-in-AttrChr c = c.attr_chr.ensures ∙ rw c.in-AttrChr.is

pub returns-in-MltReq : goal.returns-in-MltReq
unfolding told_plain
returns-in-MltReq c = c.mlt_req.ensures ∙ rw c.in-MltReq.is

pub returns-in-MaskEn : goal.returns-in-MaskEn
unfolding told_plain
returns-in-MaskEn c = c.mask_en.ensures ∙ rw c.in-MaskEn.is

pub returns-in-Nothing : goal.returns-in-Nothing
unfolding told_plain
returns-in-Nothing c = rw c.in-Nothing.is (nothing-done _ c.requires.0)
