use Rattle.s3a_shell.specs.inner.Asking.{OnOne}
use Rattle.s3a_shell.specs.inner.Sendings.{Asked, AtMost, Sent}
use Rattle.s3a_shell.specs.Uploading.{aborts}
use Rattle.s3a_shell.specs.inner.Uploading.{AfterSome, after_aborts}
use Rattle.std.proofs.Common.{take, ◌≡◌}
use Rattle.s3a_shell.proofs.session.Session.abort_all.Given as goal

abbrev pub invariant-loop-upload : goal.invariant-loop-upload
invariant-loop-upload l = record {
  scene : l.self.store.scene ≡ after_aborts l.fn.self.store.scene l.bucket (take l.upload-index l.uploads);
  few : AtMost l.upload-index l.fn.self l.self;
  asked : Asked (OnOne aborts l.bucket l.uploads) l.fn.self l.self;
  sent : Sent (AfterSome l.bucket l.uploads l.fn.self.store.scene) l.fn.self l.self;
}
