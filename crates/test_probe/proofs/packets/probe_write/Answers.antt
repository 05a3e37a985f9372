-- What a sound receiver completes has its place in the store.
use Rattle.receiver.proofs.Sound.{has-place}
use Rattle.test_probe.proofs.packets.probe_write.Goals as goal

pub write-w-requires : goal.write-w-requires
write-w-requires c = rw c.stage_of.ensures c.requires.sound

pub file-requires : goal.file-requires
file-requires c = (has-place _ _ _ _ (rw c.stage_of.ensures c.requires.sound) c.write-w.ensures, c.requires.next_len.1)
