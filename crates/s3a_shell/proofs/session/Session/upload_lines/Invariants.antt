use Rattle.bucket_ops.specs.Uploads.{IsStill}
use Rattle.s3a_shell.specs.Asking.{lists}
use Rattle.s3a_shell.specs.inner.Asking.{OnOne}
use Rattle.s3a_shell.specs.Sendings.{has_changed}
use Rattle.s3a_shell.specs.inner.Sendings.{Asked, AtMost, Sent}
use Rattle.s3a_shell.specs.inner.Uploading.{asked_lines}
use Rattle.std.proofs.Common.{drop, string_bytes, ◌++◌, ◌≡◌}
use Rattle.s3a_shell.proofs.session.Session.upload_lines.Given as goal

abbrev pub invariant-loop-upload : goal.invariant-loop-upload
invariant-loop-upload l = record {
  same : l.self.store.scene ≡ l.fn.self.store.scene;
  looks : has_changed l.self.journal.entries ≡ has_changed l.fn.self.journal.entries;
  few : AtMost l.upload-index l.fn.self l.self;
  asked : Asked (OnOne lists l.bucket l.uploads) l.fn.self l.self;
  sent : Sent (IsStill l.fn.self.store.scene) l.fn.self l.self;
  text : string_bytes l.lines ++ asked_lines l.fn.self.store.scene l.bucket (drop l.upload-index l.uploads) ≡ asked_lines
      l.fn.self.store.scene l.bucket l.uploads;
}
