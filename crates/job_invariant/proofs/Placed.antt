-- The places of a job: where they are, and that they are all different.
use Rattle.text_and_lists.specs.Members.{IsIn}
use Rattle.job_invariant.proofs.Legal.{is_attempt, no_record, same_file, small_attempt, small_task, some_dest}
use Rattle.job_invariant.proofs.Whose.{attempt, who_of}
use Rattle.job_invariant.specs.Facts.{IsAttempt, IsOwnPlace}
use Rattle.job_invariant.specs.Stores.{at_path, at_place, set_at}
use Rattle.job_model.specs.Attempts.{Who}
use Rattle.job_model.specs.Files.{File}
use Rattle.job_model.specs.JobScript.{Script}
use Rattle.job_model.specs.Legal.{IsLegal}
use Rattle.job_protocol.specs.Outputs.{files}
use Rattle.job_protocol.specs.Records.{file_key}
use Rattle.job_protocol.specs.Seen.{is_magic, is_staging}
use Rattle.magic_paths.proofs.Tails.{begins_behind, below_is, key_magic, keys_apart, paths_apart}
use Rattle.magic_paths.specs.Layout.{cluster_prefix, magic_prefix}
use Rattle.magic_paths.specs.Places.{ClusterPlace, IsClusterPlace, IsPlace, MarkerPlace, Place, RecordPlace, SetPlace, StagedSetPlace}
use Rattle.magic_paths.specs.Places.{TemporaryPlace, is_magic_place, is_record, key_at, path_at}
use Rattle.s3_types.specs.Pages.{begins}
use Rattle.s3_types.specs.Store.{Scene}
use Rattle.s3_types.specs.declared.object.Object.{Object}
use Rattle.s3_types.specs.declared.request.Committer.{Committer}
use Rattle.std.proofs.Common.{List, Option, Some, ap, arith, codes, refl, sym, true, ℕ, [], ◌++◌, ◌<◌, ◌∙◌, ◌∷◌, ◌≡◌}
use Rattle.std.proofs.lemmas.List.{append_cancel_left}
use Rattle.std.specs.Fmt.{decimal}
use Rattle.std.specs.Option.{option_map}

-- ---- the committers

pub not_both : (c : Committer) → is_magic c ≡ true → is_staging c ≡ true → ⊥
not_both c h g = grind arith

-- ---- places in the store

pub record_place : {w : Script} → IsLegal w → is_magic w.committer ≡ true → (a : Who) (f : File) → IsIn f (files w a)
    → IsPlace (RecordPlace a.task a.attempt f.0)
record_place j magic a f i = let s = small_attempt j a (is_attempt j a f i) in (s.0, s.1, no_record j magic a f i)

pub own_place : {w : Script} → IsLegal w → is_magic w.committer ≡ true → (p : Place) → IsOwnPlace w p → IsPlace p
own_place j magic (MarkerPlace t a p) h = let s = small_attempt j (attempt t a) (is_attempt j (attempt t a) h.0 h.1) in
    (s.0, s.1, ap is_record h.2 ∙ no_record j magic (attempt t a) h.0 h.1)
own_place j magic (RecordPlace t a p) h = let s = small_attempt j (attempt t a) (is_attempt j (attempt t a) h.0 h.1) in
    (s.0, s.1, ap is_record h.2 ∙ no_record j magic (attempt t a) h.0 h.1)
own_place j magic (SetPlace t) h = small_task j t h
own_place j magic _ h = absurd h

own_is : (w : Script) (p : Place) → IsOwnPlace w p → is_magic_place p ≡ true
own_is w p h = grind arith

-- The key of such a place is below the magic directory.
pub own_magic : {w : Script} → IsLegal w → is_magic w.committer ≡ true → (p : Place) → IsOwnPlace w p
    → begins (magic_prefix w.dest.key w.job) (key_at w.dest.key w.job p) ≡ true
own_magic {w = w} j magic p h = key_magic w.dest.key w.job p (some_dest j) (own_place j magic p h) ∙ own_is w p h

pub record_magic : {w : Script} → IsLegal w → is_magic w.committer ≡ true → (a : Who) (f : File) → IsIn f (files w a)
    → begins (magic_prefix w.dest.key w.job) (key_at w.dest.key w.job (RecordPlace a.task a.attempt f.0)) ≡ true
record_magic j magic a f i = own_magic j magic (RecordPlace a.task a.attempt f.0) (f, i, refl)

pub set_magic : {w : Script} → IsLegal w → (t : ℕ) → t < w.tasks
    → begins (magic_prefix w.dest.key w.job) (key_at w.dest.key w.job (SetPlace t)) ≡ true
set_magic {w = w} j t h = key_magic w.dest.key w.job (SetPlace t) (some_dest j) (small_task j t h)

-- Two places of the job with one key are one place.
pub one_place : {w : Script} → IsLegal w → (p q : Place) → IsPlace p → IsPlace q → key_at w.dest.key w.job p ≡ key_at w.dest.key w.job q
    → p ≡ q
one_place {w = w} j p q g h e = keys_apart w.dest.key w.job w.job p q (some_dest j) j.job j.job g h e

-- Two files with one key have one path.
pub one_key : {w : Script} → IsLegal w → (f g : File) → file_key w f ≡ file_key w g → f.0 ≡ g.0
one_key {w = w} j f g e =
    let cut_off : 47 ∷ f.0 ≡ 47 ∷ g.0 = append_cancel_left w.dest.key (47 ∷ f.0) (47 ∷ g.0)
    (sym (below_is w.dest.key f.0 (some_dest j)) ∙ e ∙ below_is w.dest.key g.0 (some_dest j)) in
    append_cancel_left (47 ∷ []) f.0 g.0 cut_off

-- Two such files of one attempt are one file.
pub key_file : {w : Script} → IsLegal w → (a : Who) (f g : File) → IsIn f (files w a) → IsIn g (files w a) → file_key w f ≡ file_key w g
    → f ≡ g
key_file j a f g i k e = same_file j a f g i k (one_key j f g e)

-- ---- places in the cluster

behind_job : (job rest : List ℕ) → begins (cluster_prefix job) (codes "jobs/" ++ (job ++ 47 ∷ rest)) ≡ true
behind_job job rest = begins_behind (codes "jobs/") (job ++ codes "/") (job ++ 47 ∷ rest) ∙ begins_behind job (codes "/") (47 ∷ rest)

-- The places in the cluster are below the job's directory there.
pub path_below : (w : Script) (p : ClusterPlace) → begins (cluster_prefix w.job) (path_at w.job p) ≡ true
path_below w (TemporaryPlace t a) = behind_job w.job (codes "tmp/" ++ (decimal t ++ (codes "_" ++ (decimal a ++ codes ".pendingset"))))
path_below w (StagedSetPlace t) = behind_job w.job (codes "sets/task_" ++ (decimal t ++ codes ".pendingset"))

pub one_path : {w : Script} → IsLegal w → (p q : ClusterPlace) → IsClusterPlace p → IsClusterPlace q → path_at w.job p ≡ path_at w.job q
    → p ≡ q
one_path {w = w} j p q g h e = (paths_apart w.job w.job p q j.job j.job g h e).0

-- Temporary files with one path are of one attempt.
pub one_temporary : {w : Script} → IsLegal w → (a b : Who) → IsAttempt w a → IsAttempt w b
    → path_at w.job (TemporaryPlace a.task a.attempt) ≡ path_at w.job (TemporaryPlace b.task b.attempt) → a ≡ b
one_temporary j a b d e is =
    let at : TemporaryPlace a.task a.attempt ≡ TemporaryPlace b.task b.attempt = one_path j (TemporaryPlace a.task a.attempt)
    (TemporaryPlace b.task b.attempt) (small_attempt j a d) (small_attempt j b e) is in
    let t : a.task ≡ b.task = cc in
    let n : a.attempt ≡ b.attempt = cc in
    who_of a b t n

-- None of them is a task's set.
pub not_staged : {w : Script} → IsLegal w → (a : Who) (t : ℕ) → IsAttempt w a → t < w.tasks
    → path_at w.job (TemporaryPlace a.task a.attempt) ≡ path_at w.job (StagedSetPlace t) → ⊥
not_staged j a t d lt is =
    let at : TemporaryPlace a.task a.attempt ≡ StagedSetPlace t = one_path j (TemporaryPlace a.task a.attempt) (StagedSetPlace t)
    (small_attempt j a d) (small_task j t lt) is in
    absurd cc

-- ---- a task's set, where the committer keeps it

pub magic_set : (c : Committer) (w : Script) (s : Scene) (t : ℕ) → is_magic c ≡ true
    → set_at c w s t ≡ option_map (λ o. o.bytes) (at_place w s.content (SetPlace t))
magic_set c w s t h = grind arith

pub staged_set : (c : Committer) (w : Script) (s : Scene) (t : ℕ) → is_staging c ≡ true → set_at c w s t ≡ at_path w s (StagedSetPlace t)
staged_set c w s t h = grind arith

pub set_same : (c : Committer) (w : Script) (s u : Scene) (t : ℕ) → at_place w u.content (SetPlace t) ≡ at_place w s.content (SetPlace t)
    → at_path w u (StagedSetPlace t) ≡ at_path w s (StagedSetPlace t) → set_at c w u t ≡ set_at c w s t
set_same c w s u t h g = grind arith

-- An object is there, and has these bytes.
pub set_object : (o : Option Object) (b : List ℕ) → option_map (λ o. o.bytes) o ≡ Some b → (x : Object) × (o ≡ Some x) × (x.bytes ≡ b)
set_object o b h = grind arith

-- The set was there before.
pub set_stood : (c : Committer) (w : Script) (s u : Scene) (t : ℕ) (b : List ℕ)
    → ((x : Object) → at_place w u.content (SetPlace t) ≡ Some x → at_place w s.content (SetPlace t) ≡ Some x)
    → ((x : List ℕ) → at_path w u (StagedSetPlace t) ≡ Some x → at_path w s (StagedSetPlace t) ≡ Some x) → set_at c w u t ≡ Some b
    → set_at c w s t ≡ Some b
set_stood c w s u t b h g e = grind arith
