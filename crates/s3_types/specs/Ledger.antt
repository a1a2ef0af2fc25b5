use Rattle.std.specs.Prelude.{ℕ, List}
use Rattle.s3_types.specs.declared.journal.Entry.{Entry}

-- The entries of a journal, and the number of entries for which it has room without more memory.
pub record Ledger : Type 0 where
  pub entries : List Entry
  pub room : ℕ
