-- The lines of a script's head: how they are read, one after another, and how they are printed.
use Rattle.text_and_lists.specs.Numbers.{number_in}
use Rattle.text_and_lists.specs.Reading.{check, free, need, ◌>>=◌}
use Rattle.text_and_lists.specs.Shapes.{at_most_one, one, two_and_more}
use Rattle.job_model.specs.JobScript.{Script}
use Rattle.job_model.specs.Paths.{is_dest_key}
use Rattle.job_script.specs.Kinds.{Line, Names, answer_word, answers, committers, fate_word, fates, mode_word, modes, named}
use Rattle.job_script.specs.declared.draft.Loss.{Loss}
use Rattle.job_script.specs.declared.fault.ScriptFault.{ScriptFault}
use Rattle.job_script.specs.declared.fault.ScriptFault.TheVariants.{BadLine, BadNumber, BadPath, DestIsRoot, RepeatedName, TooLarge}
use Rattle.job_script.specs.declared.head.Head.{Head}
use Rattle.job_script.specs.declared.head.HeadWord.{HeadWord}
use Rattle.path_keys.specs.Paths.{Path, path_in}
use Rattle.path_keys.specs.declared.fault.PathFault.{PathFault}
use Rattle.pending_json.specs.Committers.{committer_word}
use Rattle.s3_types.specs.Fates.{FateMap, with_fates}
use Rattle.s3_types.specs.Names.{is_job_id}
use Rattle.s3_types.specs.declared.fates.Fate.{Fate}
use Rattle.s3_types.specs.declared.limits.TheConstants.{MOST_SCRIPT_BYTES}
use Rattle.s3_types.specs.declared.request.Committer.{Committer}
use Rattle.s3_types.specs.declared.request.Mode.{Mode}
use Rattle.std.specs.Fmt.{decimal}
use Rattle.std.specs.List.{flat_map}
use Rattle.std.specs.Prelude.{Bool, Err, List, None, Ok, Option, Result, Some, codes, false, if◌then◌else◌, is_some, length, map, nat_le}
use Rattle.std.specs.Prelude.{nat_lt, not, option_map, suc, zero, ℕ, [], ◌++◌, ◌+◌, ◌-◌, ◌==◌, ◌||◌, ◌∷◌}
use Rattle.std.specs.FinMap as fin
use Rattle.job_script.specs.declared.head.HeadWord.TheVariants as head

-- The head before the first line. At most `losses` lines `loss` may come.
abbrev pub no_head : ℕ → Head
no_head losses = record {
  job = None;
  dest = None;
  committer = None;
  tasks = None;
  mode = None;
  unique = None;
  retries = None;
  block = None;
  lanes = None;
  stamp = None;
  fates = fin.empty;
  losses_left = losses;
}

-- ---- lines that give one value

-- The value of the n-th line, which has one word after its first one.
abbrev pub value_at : {A : Type 0} → (ℕ → List ℕ → Result A ScriptFault) → ℕ → List (List ℕ) → Result A ScriptFault
value_at read n values = need (one values) (BadLine n) >>= λ word. read n word

-- The value of the n-th line, unless an earlier line gave one.
abbrev pub first_value : {A : Type 0} → ℕ → Option A → A → Result (Option A) ScriptFault
first_value n before value = free before (RepeatedName n) >>= λ first. Ok (Some value)

-- The job's id in a word.
unfoldable pub job_of : ℕ → List ℕ → Result (List ℕ) ScriptFault
job_of n word = check (is_job_id word) (BadLine n) >>= λ stated. Ok word

-- The path in a word, or BadPath.
abbrev pub as_path : ℕ → Result Path PathFault → Result Path ScriptFault
as_path n (Ok path) = Ok path
as_path n (Err fault) = Err (BadPath n)

-- The destination in a word.
unfoldable pub dest_of : ℕ → List ℕ → Result Path ScriptFault
dest_of n word = do
  path ← as_path n (path_in word)
  below ← check (nat_lt 0 (length path.key)) DestIsRoot
  stated ← check (is_dest_key path.key) (BadPath n)
  Ok path

-- The text of a path: s3a://BUCKET/KEY.
abbrev pub path_text : Path → List ℕ
path_text p = codes "s3a://" ++ (p.bucket ++ 47 ∷ p.key)

-- The meaning of a word in a table, or BadLine.
abbrev pub name : {A : Type 0} → Names A → ℕ → List ℕ → Result A ScriptFault
name names n word = need (named names word) (BadLine n)

-- The number that a word writes, from `low` to `high`.
unfoldable pub number : ℕ → ℕ → ℕ → List ℕ → Result ℕ ScriptFault
number low high n word = need (number_in low high word) (BadNumber n)

-- The number, or none if it is the default, which has no line.
abbrev pub unless : ℕ → ℕ → Option ℕ
unless default n = if n == default then None else Some n

-- The type of the value of a line of this kind.
abbrev pub Value : HeadWord → Type 0
Value head.Job = List ℕ
Value head.Dest = Path
Value head.Committer = Committer
Value head.Mode = Mode
Value head.Unique = Bool
Value w = ℕ

-- A kind of line that gives one value.
pub record Row (A : Type 0) : Type 0 where
  -- The first word of the line.
  pub word : List ℕ
  -- The value of the second word, in the n-th line.
  pub read : ℕ → List ℕ → Result A ScriptFault
  -- The text of a value.
  pub text : A → List ℕ
  -- The value that an earlier line of this kind gave, if there was one.
  pub kept : Head → Option A
  -- The head with the value of the n-th line, or with none.
  pub put : ℕ → Option A → Head → Head
  -- The value in a script, or none if the script has no such line.
  pub said : Script → Option A

-- The kinds of such lines. A mode and a word `unique` are kept with their lines.
abbrev pub row : (w : HeadWord) → Row (Value w)
row head.Job = record {
  word = codes "job";
  read = job_of;
  text = λ id. id;
  kept = λ h. h.job;
  put = λ n x h. record h { job = x };
  said = λ
      s. Some s.job;
}
row head.Dest = record {
  word = codes "dest";
  read = dest_of;
  text = path_text;
  kept = λ h. h.dest;
  put = λ n x h. record h { dest = x };
  said = λ s. Some s.dest;
}
row head.Committer = record {
  word = codes "committer";
  read = name committers;
  text = committer_word;
  kept = λ h. h.committer;
  put = λ n x
      h. record h { committer = x };
  said = λ s. Some s.committer;
}
row head.Tasks = record {
  word = codes "tasks";
  read = number 0 1000;
  text = decimal;
  kept = λ h. h.tasks;
  put = λ n x h. record h
      { tasks = x };
  said = λ s. Some s.tasks;
}
row head.Mode = record {
  word = codes "mode";
  read = name modes;
  text = mode_word;
  kept = λ h. option_map (λ m. m.1) h.mode;
  put = λ n x h.
      record h { mode = option_map (λ m. (n, m)) x };
  said = λ s. Some s.mode;
}
row head.Unique = record {
  word = codes "unique";
  read = name answers;
  text = answer_word;
  kept = λ h. option_map (λ u. u.1) h.unique;
  put =
      λ n x h. record h { unique = option_map (λ u. (n, u)) x };
  said = λ s. Some s.unique;
}
row head.Retries = record {
  word = codes "retries";
  read = number 0 9;
  text = decimal;
  kept = λ h. h.retries;
  put = λ n x h. record h
      { retries = x };
  said = λ s. Some s.retries;
}
row head.Block = record {
  word = codes "block";
  read = number 1 MOST_SCRIPT_BYTES;
  text = decimal;
  kept = λ h. h.block;
  put = λ n x h.
      record h { block = x };
  said = λ s. unless 0 s.block;
}
row head.Lanes = record {
  word = codes "lanes";
  read = number 1 8;
  text = decimal;
  kept = λ h. h.lanes;
  put = λ n x h. record h
      { lanes = x };
  said = λ s. unless 1 s.lanes;
}
row head.Stamp = record {
  word = codes "stamp";
  read = number 0 999999999999999999;
  text = decimal;
  kept = λ h. h.stamp;
  put = λ n x h.
      record h { stamp = x };
  said = λ s. s.stamp;
}

-- The order in which the format lists them.
abbrev pub head_order : List HeadWord
head_order = head.Job ∷ head.Dest ∷ head.Committer ∷ head.Tasks ∷ head.Mode ∷ head.Unique ∷ head.Retries ∷ head.Block ∷ head.Lanes ∷
    head.Stamp ∷ []

-- The words of the head.
abbrev pub head_words : Names HeadWord
head_words = map (λ w. ((row w).word, w)) head_order

-- The head after the n-th line, of the kind of this row.
abbrev pub row_at : {A : Type 0} → Row A → ℕ → Head → List (List ℕ) → Result Head ScriptFault
row_at r n h values = do
  value ← value_at r.read n values
  first ← first_value n (r.kept h) value
  Ok (r.put n first h)

-- The head after the n-th line, of this kind.
abbrev pub head_at : ℕ → HeadWord → Head → List (List ℕ) → Result Head ScriptFault
head_at n head.Job h values = row_at (row head.Job) n h values
head_at n w h values = row_at (row w) n h values

-- The line of a word and a value, or none if there is no value.
abbrev pub value_lines : List ℕ → Option (List ℕ) → List Line
value_lines word None = []
value_lines word (Some value) = (word ∷ value ∷ []) ∷ []

-- The line of this kind that a script has, or none.
abbrev pub row_lines : Script → HeadWord → List Line
row_lines s w = value_lines (row w).word (option_map (row w).text ((row w).said s))

-- ---- sends that have a fate

-- COUNT, or 1 if it is absent.
abbrev pub count_of : Option (List ℕ) → Option ℕ
count_of None = Some 1
count_of (Some word) = number_in 1 1000 word

-- N FATE or N FATE COUNT: consecutive sends, the last one at most the 1,000,000,000th.
unfoldable pub loss_of : ℕ → List (List ℕ) → Result Loss ScriptFault
loss_of n values = do
  words ← need (two_and_more values) (BadLine n)
  third ← need (at_most_one words.2) (BadLine n)
  fate ← need (named fates words.1) (BadLine n)
  first ← need (number_in 1 1000000000 words.0) (BadNumber n)
  count ← need (count_of third) (BadNumber n)
  fits ← check (nat_le (first + count) 1000000001) (BadNumber n)
  Ok (record { first = first; fate = fate; count = count })

-- True if one of the `n` sends from `first` on has a fate.
unfoldable pub has_one : FateMap → ℕ → ℕ → Bool
has_one m first zero = false
has_one m first (suc n) = has_one m first n || is_some (fin.get m (first + n))

-- The fates with these sends, none of which may have one yet.
unfoldable pub named_at : ℕ → Loss → FateMap → Result FateMap ScriptFault
named_at n loss m = do
  new ← check (not (has_one m loss.first loss.count)) (RepeatedName n)
  Ok (with_fates m loss.first loss.fate loss.count)

-- The head after `loss N FATE` or `loss N FATE COUNT`.
unfoldable pub loss_at : ℕ → Head → List (List ℕ) → Result Head ScriptFault
loss_at n h values = do
  loss ← loss_of n values
  fates ← named_at n loss h.fates
  few ← check (nat_lt 0 h.losses_left) TooLarge
  Ok (record h { fates = fates; losses_left = h.losses_left - 1 })

-- The line for one send.
abbrev pub loss_line : ℕ × Fate → Line
loss_line l = codes "loss" ∷ decimal l.0 ∷ fate_word l.1 ∷ []

-- A line for each send that has a fate, by rising number.
abbrev pub loss_lines : FateMap → List Line
loss_lines fates = map loss_line (fin.entries fates)

-- ---- the head of a script

-- All head lines, in the order in which the format lists them.
abbrev pub head_lines : Script → List Line
head_lines s = flat_map (row_lines s) head_order ++ loss_lines s.fates
