-- Eight stores in a row are the word's eight bytes.
use Prim.Native.Nat.{◌/◌, ◌^◌}
use native.Mathlib.Omega.{arith}
use lib.Bits.{mask_lt}
use lib.ListN.{length-set}
use Rattle.block_packet.proofs.Halves.{put_eight}
use Rattle.block_packet.proofs.put_half.Goals as goal

pub overflow_cast-bytes : goal.overflow_cast-bytes
overflow_cast-bytes c = record { fits = mask_lt c.args.w 8 }

pub overflow_cast-bytes-2 : goal.overflow_cast-bytes-2
overflow_cast-bytes-2 c = record { fits = mask_lt (c.args.w / 2 ^ 8) 8 }

pub bounds-bytes-at-2 : goal.bounds-bytes-at-2
bounds-bytes-at-2 c = simp length-set (omega arith)

pub overflow_cast-bytes-3 : goal.overflow_cast-bytes-3
overflow_cast-bytes-3 c = record { fits = mask_lt (c.args.w / 2 ^ 16) 8 }

pub bounds-bytes-at-3 : goal.bounds-bytes-at-3
bounds-bytes-at-3 c = simp length-set (omega arith)

pub overflow_cast-bytes-4 : goal.overflow_cast-bytes-4
overflow_cast-bytes-4 c = record { fits = mask_lt (c.args.w / 2 ^ 24) 8 }

pub bounds-bytes-at-4 : goal.bounds-bytes-at-4
bounds-bytes-at-4 c = simp length-set (omega arith)

pub overflow_cast-bytes-5 : goal.overflow_cast-bytes-5
overflow_cast-bytes-5 c = record { fits = mask_lt (c.args.w / 2 ^ 32) 8 }

pub bounds-bytes-at-5 : goal.bounds-bytes-at-5
bounds-bytes-at-5 c = simp length-set (omega arith)

pub overflow_cast-bytes-6 : goal.overflow_cast-bytes-6
overflow_cast-bytes-6 c = record { fits = mask_lt (c.args.w / 2 ^ 40) 8 }

pub bounds-bytes-at-6 : goal.bounds-bytes-at-6
bounds-bytes-at-6 c = simp length-set (omega arith)

pub overflow_cast-bytes-7 : goal.overflow_cast-bytes-7
overflow_cast-bytes-7 c = record { fits = mask_lt (c.args.w / 2 ^ 48) 8 }

pub bounds-bytes-at-7 : goal.bounds-bytes-at-7
bounds-bytes-at-7 c = simp length-set (omega arith)

pub overflow_cast-bytes-8 : goal.overflow_cast-bytes-8
overflow_cast-bytes-8 c = record { fits = mask_lt (c.args.w / 2 ^ 56) 8 }

pub bounds-bytes-at-8 : goal.bounds-bytes-at-8
bounds-bytes-at-8 c = simp length-set (omega arith)

pub returns : goal.returns
returns c = put_eight _ c.args.at c.args.w c.requires
