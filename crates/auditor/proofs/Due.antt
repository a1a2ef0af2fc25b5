-- What the stage of a trace guarantees of a line.
use Rattle.text_and_lists.specs.Reading.{check, need, ◌>>=◌}
use Rattle.pending_json.specs.Fields.{as_texts, as_u32, kept}
use Rattle.serde_json.specs.Data.{Data}
use Rattle.serde_json.specs.Find.{as_bool, as_object, as_str, get}
use Rattle.std.proofs.Common.{Bool, Err, List, None, Ok, Option, Result, Some, ap, arith, false, if◌then◌else◌, is_none, is_some, length}
use Rattle.std.proofs.Common.{nat_le, nat_lt, not, refl, rules, subst, sym, true, ℕ, [], ◌&&◌, ◌<◌, ◌∙◌, ◌∷◌, ◌≡◌}
use Rattle.std.proofs.lemmas.Bool.{and_parts}
use Rattle.std.specs.Option.{option_and_then}
use Rattle.trace_reader.specs.Operations.{may_come, operation_of}
use Rattle.trace_reader.specs.Reading.{MOST_BYTES, as_dest, as_file_path, as_keeps, as_parts, as_task, attempt_in, complete_in, copy_in}
use Rattle.trace_reader.specs.Reading.{delete_all_in, delete_in, file_in, if_effect, job_in, line_of, member, name_of, object_in, of_kind}
use Rattle.trace_reader.specs.Reading.{put_in, said_by, tree_of, turn_in}
use Rattle.trace_reader.specs.declared.fault.Field.{Field}
use Rattle.trace_reader.specs.declared.fault.TraceFault.{TraceFault}
use Rattle.trace_reader.specs.declared.fault.TraceFault.TheVariants.{MissingField, NotJson, OutOfOrder, TooLong, UnknownOp}
use Rattle.trace_reader.specs.declared.line.TraceLine.{TraceLine}
use Rattle.trace_reader.specs.declared.operation.Operation.{Operation}
use Rattle.trace_reader.specs.declared.stage.TraceStage.{TraceStage}
use Rattle.trace_reader.specs.declared.fault.Field.TheVariants as field
use Rattle.trace_reader.specs.declared.line.TraceLine.TheVariants as line
use Rattle.trace_reader.specs.declared.operation.Operation.TheVariants as op

-- The number is below the other, if there is another.
abbrev Below : ℕ → Option ℕ → Type 0
Below t None = ⊥
Below t (Some n) = t < n

-- The guarantees for a line that may come at this stage.
abbrev pub Sure : TraceStage → TraceLine → Type 0
Sure s (line.Job dest keeps tasks) = Unit {0}
Sure s (line.Attempt task attempt) = (s.running ≡ false) × Below task s.tasks
Sure s (line.File path tags) = (s.running ≡ false) × (s.attempted ≡ true)
Sure s (line.Object bucket key tags) = s.running ≡ false
Sure s line.Commit = Unit {0}
Sure s (line.Put bucket key tags) = Unit {0}
Sure s (line.Copy bucket source key) = Unit {0}
Sure s (line.Delete bucket keys) = Unit {0}
Sure s line.Still = Unit {0}

-- The guarantee for what was read, if that has no fault.
abbrev OfRead : {A : Type 0} → (A → Type 0) → Result A TraceFault → Type 0
OfRead P (Ok x) = P x
OfRead P (Err fault) = Unit {0}

some_none : {A : Type 0} {x : A} → None ≡ Some x → ⊥
some_none e = grind (arith)

some_same : {A : Type 0} {x y : A} → Some x ≡ Some y → x ≡ y
some_same e = cc

lt_of : {m n : ℕ} → nat_lt m n ≡ true → m < n
lt_of e = grind (arith, rules)

-- If each value of the first step leads to the guarantee, both steps do.
step : {A B : Type 0} (P : B → Type 0) (x : Result A TraceFault) (k : A → Result B TraceFault)
    → ((a : A) → x ≡ Ok a → OfRead P (k a)) → OfRead P (x >>= k)
step P (Ok a) k h = h a refl
step P (Err fault) k h = tt

not_running : (b : Bool) → not b ≡ true → b ≡ false
not_running true e = sym e
not_running false e = refl

-- A request that took no effect is a line that changes nothing.
effect : (s : TraceStage) (b : Bool) (l : TraceLine) → Sure s l → Sure s (if_effect b l)
effect s true l h = h
effect s false l h = tt

task_below : (tasks : Option ℕ) (d : Data) (t : ℕ) → as_task tasks d ≡ Some t → Below t tasks
task_below None d t h = absurd (some_none h)
task_below (Some n) d t h = below (as_u32 d) h
  where
    kept_below : (m : ℕ) (b : Bool) → nat_lt m n ≡ b → (if b then Some m else None) ≡ Some t → t < n
    kept_below m true e k = subst (λ (v : ℕ). v < n) (some_same k) (lt_of e)
    kept_below m false e k = absurd (some_none k)

    below : (x : Option ℕ) → option_and_then (kept (λ m. nat_lt m n)) x ≡ Some t → t < n
    below None k = absurd (some_none k)
    below (Some m) k = kept_below m (nat_lt m n) refl k

of_kind_is : {A : Type 0} (f : Field) (x : Option A) (a : A) → of_kind f x ≡ Ok a → x ≡ Some a
of_kind_is f None a e = grind (arith)
of_kind_is f (Some y) a e = grind (arith)

member_is : {A : Type 0} (kind : Data → Option A) (f : Field) (d : Data) (a : A) → member kind f d ≡ Ok a → (v : Data) × (kind v ≡ Some a)
member_is kind f d a e = by (get (name_of f) d) e
  where
    by : (x : Option Data) → (need x (MissingField f) >>= λ v. of_kind f (kind v)) ≡ Ok a → (v : Data) × (kind v ≡ Some a)
    by None e = grind (arith)
    by (Some v) e = (v, of_kind_is f (kind v) a e)

sure_of : (s : TraceStage) (o : Operation) (d : Data) → may_come s o ≡ true → OfRead (Sure s) (said_by s.tasks o d)
unfolding job_in attempt_in file_in object_in put_in copy_in delete_in delete_all_in complete_in
sure_of s op.Job d may =
    step (Sure s) (member as_dest field.Dest d) _ (λ dest _. step (Sure s) (member as_keeps field.Keeps d) _ (λ keeps _.
    step (Sure s) (member as_u32 field.Tasks d) _ (λ tasks _. tt)))
sure_of s op.Attempt d may =
    step (Sure s) (member (as_task s.tasks) field.Task d) _ (λ task e. step (Sure s) (member as_u32 field.Attempt d) _ (λ attempt _. (
      not_running s.running (and_parts (is_some s.tasks) (not s.running) may).1,
      task_below s.tasks (member_is (as_task s.tasks) field.Task d task e).0 task (member_is (as_task s.tasks) field.Task d task e).1,
    )))
sure_of s op.File d may =
    step (Sure s) (member as_file_path field.Path d) _ (λ path _. step (Sure s) (member as_texts field.Etags d) _ (λ tags _.
    let both = and_parts s.attempted (not s.running) (and_parts (is_some s.tasks) (s.attempted && not s.running) may).1 in
    (not_running s.running both.1, both.0)))
sure_of s op.Object d may =
    step (Sure s) (member as_str field.Bucket d) _ (λ bucket _. step (Sure s) (member as_str field.Key d) _ (λ key _.
    step (Sure s) (member as_texts field.Etags d) _ (λ tags _.
    not_running s.running (and_parts (is_some s.tasks) (not s.running) may).1)))
sure_of s op.Commit d may = tt
sure_of s op.PutObject d may =
    step (Sure s) (member as_str field.Bucket d) _ (λ bucket _. step (Sure s) (member as_bool field.Effect d) _ (λ e _.
    step (Sure s) (member as_str field.Key d) _ (λ key _. step (Sure s) (member as_str field.Etag d) _ (λ tag _.
    effect s e (line.Put bucket key (tag ∷ [])) tt))))
sure_of s op.CopyObject d may =
    step (Sure s) (member as_str field.Bucket d) _ (λ bucket _. step (Sure s) (member as_bool field.Effect d) _ (λ e _.
    step (Sure s) (member as_str field.Source d) _ (λ source _. step (Sure s) (member as_str field.Key d) _ (λ key _.
    effect s e (line.Copy bucket source key) tt))))
sure_of s op.DeleteObject d may =
    step (Sure s) (member as_str field.Bucket d) _ (λ bucket _. step (Sure s) (member as_bool field.Effect d) _ (λ e _.
    step (Sure s) (member as_str field.Key d) _ (λ key _. effect s e (line.Delete bucket (key ∷ [])) tt)))
sure_of s op.DeleteObjects d may =
    step (Sure s) (member as_str field.Bucket d) _ (λ bucket _. step (Sure s) (member as_bool field.Effect d) _ (λ e _.
    step (Sure s) (member as_texts field.Keys d) _ (λ keys _. effect s e (line.Delete bucket keys) tt)))
sure_of s op.CompleteMultipartUpload d may =
    step (Sure s) (member as_str field.Bucket d) _ (λ bucket _. step (Sure s) (member as_bool field.Effect d) _ (λ e _.
    step (Sure s) (member as_str field.Key d) _ (λ key _. step (Sure s) (member as_parts field.Parts d) _ (λ parts _.
    effect s e (line.Put bucket key parts) tt))))
sure_of s op.Other d may = tt

turned : (s : TraceStage) (o : Operation) (b : Bool) (f : TraceFault) → may_come s o ≡ b
    → OfRead (λ o. may_come s o ≡ true) (check b f >>= λ _. Ok o)
turned s o true f h = h
turned s o false f h = tt

turn : (s : TraceStage) (d : Data) (o : Operation) → turn_in s d ≡ Ok o → may_come s o ≡ true
turn s d o e = subst (OfRead (λ o. may_come s o ≡ true)) e
    (step (λ o. may_come s o ≡ true) (need (as_object d) NotJson) _ (λ m _. step (λ o. may_come s o ≡ true) (member as_str field.Op d) _
    (λ name _. step (λ o. may_come s o ≡ true) (need (operation_of name) UnknownOp) _
    (λ o _. turned s o (may_come s o) OutOfOrder refl))))

-- A line that was read has its guarantees.
pub sure : (s : TraceStage) (bytes : List ℕ) (l : TraceLine) → line_of s bytes ≡ Ok l → Sure s l
unfolding line_of
sure s bytes l e = subst (OfRead (Sure s)) e
    (step (Sure s) (check (nat_le (length bytes) MOST_BYTES) TooLong) _ (λ fits _. step (Sure s) (need (tree_of bytes) NotJson) _
    (λ d _. step (Sure s) (turn_in s d) _ (λ o is.
    sure_of s o d (turn s d o is)))))
