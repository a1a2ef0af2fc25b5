-- The whole script. Reading its printed text gives the script, and a script that is read keeps the bounds.
use Rattle.text_and_lists.proofs.Lists.{one_longer}
use Rattle.text_and_lists.proofs.Reading.{needed, parted, same_ok}
use Rattle.text_and_lists.proofs.Split.{none_left}
use Rattle.text_and_lists.specs.Lines.{lines_from, lines_of}
use Rattle.text_and_lists.specs.inner.Lines.{is_inside}
use Rattle.text_and_lists.specs.Reading.{need}
use Rattle.text_and_lists.specs.Words.{text_of, words_of}
use Rattle.job_model.specs.Attempts.{Declared}
use Rattle.job_model.specs.JobScript.{Script}
use Rattle.job_model.specs.Legal.{AreAttempts, AreEvents, AreFates, FitsMagic, IsLegal, IsScriptWord}
use Rattle.job_model.specs.declared.events.Event.{Event}
use Rattle.job_script.proofs.AttemptLines.{Grown, IsSoundAttempts, attempt_sound, attempts_go, file_sound, group_after}
use Rattle.job_script.proofs.EventLines.{Added, are_named, event_added, events_go, events_more}
use Rattle.job_script.proofs.HeadLines.{Holds, IsSoundHead, drafted, head_goes, headed, none_sound, said_by, value_sound}
use Rattle.job_script.proofs.Lines.{Goes, goes_all, goes_through, lines_printed, printed_utf8}
use Rattle.job_script.proofs.LossLines.{loss_line_sound, losses_go}
use Rattle.job_script.proofs.Words.{IsClean, line_words, text_clean}
use Rattle.job_script.specs.HeadLines.{head_at, head_lines, head_order, loss_at, loss_lines, no_head, row_lines, unless}
use Rattle.job_script.specs.Print.{attempt_lines, event_line, script_lines, script_text}
use Rattle.job_script.specs.Script.{all_inside, complete, enters, is_skipped, kind_of, line_at, lines_at, mode_in, nothing, said_at}
use Rattle.job_script.specs.Script.{script_of, script_within, unique_in, words_at}
use Rattle.job_script.specs.declared.draft.Draft.{Draft}
use Rattle.job_script.specs.declared.draft.Group.{Group}
use Rattle.job_script.specs.declared.fault.ScriptFault.TheVariants.{BadLine, MissingHead, UnknownWord}
use Rattle.job_script.specs.declared.head.Head.{Head}
use Rattle.job_script.specs.declared.kinds.Kind.{Kind}
use Rattle.path_keys.specs.Paths.{Path}
use Rattle.s3_types.specs.declared.fates.Fate.{Fate}
use Rattle.s3_types.specs.declared.request.Committer.{Committer}
use Rattle.s3_types.specs.declared.request.Mode.{Mode}
use Rattle.std.proofs.Common.{Bool, List, None, Ok, Option, Some, ap, arith, false, length, map, refl, subst, sym, true, ℕ, [], ◌++◌, ◌+◌}
use Rattle.std.proofs.Common.{◌<◌, ◌==◌, ◌^◌, ◌∙◌, ◌∷◌, ◌≡◌, ◌≤◌}
use Rattle.std.proofs.lemmas.Bool.{le-leb}
use Rattle.std.specs.List.{AllByRecursion, flat_map}
use Rattle.std.specs.Option.{unwrap_or}
use Rattle.std.specs.Ordering.{nat_cmp}
use Rattle.std.specs.Prelude.{IfSome, if◌then◌else◌, ⊤}
use Rattle.std.specs.Str.{is_utf8}
use Rattle.std.specs.FinMap as fin
use Rattle.job_script.specs.declared.draft.Group.TheVariants as group
use Rattle.job_script.specs.declared.head.HeadWord.TheVariants as head
use Rattle.job_script.specs.declared.kinds.Kind.TheVariants as kind

-- ---- the code's loop over lines, and the checks after the last line

-- No line is left.
pub at_end : (n : ℕ) (d : Draft) (rest : List ℕ) {b : Bool} → b ≡ (length rest == 0) → b ≡ true → lines_at n d (lines_of rest) ≡ Ok d
unfolding lines_at lines_from
at_end n d rest is h = rw (none_left rest rest refl is h) refl

pub completed : (d : Draft) (job : List ℕ) (dest : Path) (committer : Committer) (tasks : ℕ) (mode : Mode) (unique : Bool)
    (retries block lanes : ℕ) (u : ⊤)
    → need d.head.job MissingHead ≡ Ok job → need d.head.dest MissingHead ≡ Ok dest → need d.head.committer MissingHead ≡ Ok committer
    → need d.head.tasks MissingHead ≡ Ok tasks
    → mode_in committer d.head.mode ≡ Ok mode → unique_in committer d.head.unique ≡ Ok unique → retries ≡ unwrap_or d.head.retries 3
    → block ≡ unwrap_or d.head.block 0 → lanes ≡ unwrap_or d.head.lanes 1 → all_inside d.outside ≡ Ok u
    → complete d ≡ Ok (record {
      job = job;
      dest = dest;
      committer = committer;
      mode = mode;
      unique = unique;
      tasks = tasks;
      retries =
          retries;
      block = block;
      lanes = lanes;
      stamp = d.head.stamp;
      fates = d.head.fates;
      attempts = d.attempts;
      events = d.events;
    })
unfolding complete
completed d job dest committer tasks mode unique retries block lanes u a b c e f g r k m h = rw (a, b, c, e, f, g, h, r, k, m) refl

-- ---- reading a printed script

mode_again : (c : Committer) (n : ℕ) (m : Mode) (u : Bool) → FitsMagic c m u → mode_in c (Some (n, m)) ≡ Ok m
mode_again c n m u h = grind arith

unique_again : (c : Committer) (n : ℕ) (m : Mode) (u : Bool) → FitsMagic c m u → unique_in c (Some (n, u)) ≡ Ok u
unique_again c n m u h = grind arith

unless_kept : (default n : ℕ) → n ≡ unwrap_or (unless default n) default
unless_kept default n = grind arith

-- The head after a script's lines, where k more lines `loss` might still come.
abbrev whole_head : Script → ℕ → Head
whole_head s k = record (said_by s 1 head_order (no_head k)) { fates = s.fates }

-- The draft after all lines of a script.
abbrev whole_draft : Script → ℕ → Draft
whole_draft s k = drafted (group_after (group_after group.Head group.Attempts s.attempts) group.Events s.events) (whole_head s k) s.attempts
    s.events

script_goes : (most : ℕ) (s : Script) → IsLegal s → fin.len s.fates ≤ most
    → (k : ℕ) × Goes 1 (nothing most) (script_lines s) (whole_draft s k)
script_goes most s h few =
    let said = said_by s 1 head_order (no_head most) in
    let values = flat_map (row_lines s) head_order in
    let attempts = flat_map attempt_lines s.attempts in
    let events = map event_line s.events in
    let losses = losses_go (1 + length values) said s.fates refl h.fates few in
    let k = losses.0 in
    let enter = group_after group.Head group.Attempts s.attempts in
    let first = goes_through 1 (nothing most) values (headed said) (loss_lines s.fates) (headed (whole_head s k)) (head_goes most s h)
    losses.1 in (
      k,
      goes_through 1 (nothing most) (head_lines s) (headed (whole_head s k)) (attempts ++ events) (whole_draft s k) first
          (goes_through (1 + length (head_lines s)) (headed (whole_head s k)) attempts (drafted enter (whole_head s k) s.attempts []) events
          (whole_draft s k)
          (attempts_go (whole_head s k) s.tasks refl h.tasks (1 + length (head_lines s)) s.attempts h.attempts
          (record { attempts = h.few_attempts; files = h.few_files; bytes = h.few_bytes }))
          (events_go (1 + length (head_lines s) + length attempts) enter (whole_head s k) s.attempts s.events
          (are_named s.tasks [] s.attempts h.tasks h.attempts) h.events h.few_events)),
    )

whole_script : (s : Script) (k : ℕ) → IsLegal s → complete (whole_draft s k) ≡ Ok s
whole_script s k h =
    completed (whole_draft s k) s.job s.dest s.committer s.tasks s.mode s.unique s.retries s.block s.lanes tt refl refl refl refl
    (mode_again s.committer 5 s.mode s.unique h.magic) (unique_again s.committer 6 s.mode s.unique h.magic) refl (unless_kept 0 s.block)
    (unless_kept 1 s.lanes) refl

read_from : (most size : ℕ) (bytes : List ℕ) (d : Draft) (s : Script) → length bytes ≤ size → is_utf8 bytes ≡ true
    → lines_at 1 (nothing most) (lines_of bytes) ≡ Ok d → complete d ≡ Ok s → script_within most size bytes ≡ Ok s
read_from most size bytes d s short a b c = rw (le-leb (length bytes) size short, a, b) c

-- The printed text of a script means the script, if the reader's limits are large enough for the text.
pub read_within : (most size : ℕ) (s : Script) → IsLegal s → fin.len s.fates ≤ most → length (script_text s) ≤ size
    → script_within most size (script_text s) ≡ Ok s
unfolding script_text
read_within most size s h few short =
    let g = script_goes most s h few in
    read_from most size (text_of (script_lines s)) (whole_draft s g.0) s short (printed_utf8 (script_lines s) g.1.printed)
    (ap (lines_at 1 (nothing most)) (lines_printed (script_lines s) g.1.printed)
    ∙ goes_all 1 (nothing most) (script_lines s) (whole_draft s g.0) g.1) (whole_script s g.0 h)

-- It does so within the limits of the reader.
pub read_again : (s : Script) → IsLegal s → fin.len s.fates ≤ 10000 → length (script_text s) ≤ 67108864 → script_of (script_text s) ≡ Ok s
unfolding script_of
read_again s h few short = read_within 10000 67108864 s h few short

-- ---- what is read keeps the bounds

-- Holds if later groups have no lines yet.
abbrev IsEarly : Group → List Declared → List Event → Type 0
IsEarly group.Head all es = (all ≡ []) × (es ≡ [])
IsEarly group.Attempts all es = es ≡ []
IsEarly group.Events all es = Unit {0}

-- The bounds of the draft after the lines so far.
record IsSound (d : Draft) : Type 0 where
  pub head : IsSoundHead d.head
  pub attempts : IsSoundAttempts d.head.tasks d.outside d.attempts d.files d.bytes
  pub events : AreEvents d.attempts d.events
  pub few : length d.events ≤ 100000
  pub early : IsEarly d.group d.attempts d.events

-- A head line, before any attempt.
head_kept : (d : Draft) (h : Head) → d.attempts ≡ [] → IsSoundHead h → IsSound d → IsSound (record d { head = h })
head_kept d h none is s = record {
  head = is;
  attempts = record {
    attempts = λ tasks t o. subst (AreAttempts tasks []) (sym none) tt;
    few = s.attempts.few;
    counted =
        s.attempts.counted;
    few_files = s.attempts.few_files;
    measured = s.attempts.measured;
    few_bytes = s.attempts.few_bytes;
  };
  events = s.events;
  few = s.few;
  early = s.early;
}

-- A line of an attempt or a file, before any event.
grown : (d e : Draft) → Grown d e → d.group ≡ group.Attempts → d.events ≡ [] → IsSound d → IsSound e
grown d e g at none s =
    subst IsSound g.is (record {
      head = s.head;
      attempts = g.sound;
      events = subst (AreEvents g.all) (sym none) tt;
      few = s.few;
      early =
          subst (λ (x : Group). IsEarly x g.all d.events) (sym at) none;
    })

-- One more event.
added : (d e : Draft) → Added d e → d.group ≡ group.Events → IsSound d → IsSound e
added d e a at s =
    let longer = one_longer d.events a.event in
    let few = a.few in
    subst IsSound a.after (record {
      head = s.head;
      attempts = s.attempts;
      events = events_more d.attempts d.events a.event a.is s.events;
      few = omega arith;
      early = subst (λ (x : Group). IsEarly x d.attempts (d.events ++ a.event ∷ [])) (sym at) tt;
    })

-- The group of a kind of line.
abbrev group_of : Kind → Group
group_of (kind.Head w) = group.Head
group_of kind.Loss = group.Head
group_of (kind.Event w) = group.Events
group_of k = group.Attempts

-- The group of a line is that of its kind, and no later group has lines yet.
grouped : (k : Kind) (now g : Group) (all : List Declared) (es : List Event) → enters k now ≡ Some g → IsEarly now all es → (g ≡ group_of k)
    × IsEarly (group_of k) all es
grouped k now g all es h e = grind arith

said_sound : (n : ℕ) (k : Kind) (d e : Draft) (values : List (List ℕ)) → AllByRecursion IsScriptWord values → d.group ≡ group_of k
    → IsEarly (group_of k) d.attempts d.events → said_at n k d values ≡ Ok e → IsSound d → IsSound e
unfolding said_at
said_sound n (kind.Head w) d e values words at early h s =
    let a = parted (head_at n w d.head values) _ _ h in
    subst IsSound (same_ok (record d { head = a.value }) e a.next) (head_kept d a.value early.0
    (value_sound n w d.head a.value values words a.first s.head) s)
said_sound n kind.Loss d e values words at early h s =
    let a = parted (loss_at n d.head values) _ _ h in
    subst IsSound (same_ok (record d { head = a.value }) e a.next) (head_kept d a.value early.0
    (loss_line_sound n d.head a.value values a.first s.head) s)
said_sound n kind.Attempt d e values words at early h s = grown d e (attempt_sound n d e values h s.attempts) at early s
said_sound n kind.File d e values words at early h s = grown d e (file_sound n d e values words h s.attempts) at early s
said_sound n (kind.Event w) d e values words at early h s = added d e (event_added n w d e values h) at s

words_sound : (n : ℕ) (d e : Draft) (words : List (List ℕ)) → AllByRecursion IsScriptWord words → words_at n d words ≡ Ok e → IsSound d
    → IsSound e
unfolding words_at
words_sound n d e [] w h s = absurd cc
words_sound n d e (word ∷ values) w h s =
    let a = parted (need (kind_of word) (UnknownWord n)) _ _ h in
    let b = parted (need (enters a.value d.group) (BadLine n)) _ _ a.next in
    let g = grouped a.value d.group b.value d.attempts d.events (needed (enters a.value d.group) (BadLine n) b.value b.first) s.early in
    let early = subst (λ (x : Group). IsEarly x d.attempts d.events) (sym g.0) g.1 in
    said_sound n a.value (record d { group = b.value }) e values w.1 g.0 g.1 b.next
    (record { head = s.head; attempts = s.attempts; events = s.events; few = s.few; early = early })

line_at_sound : (b : Bool) (n : ℕ) (d e : Draft) (text : List ℕ) → IsClean is_inside text
    → (if b then Ok d else words_at n d (words_of text)) ≡ Ok e → IsSound d → IsSound e
line_at_sound true n d e text c h s = subst IsSound (same_ok d e h) s
line_at_sound false n d e text c h s = words_sound n d e (words_of text) (line_words text c) h s

lines_sound : (n : ℕ) (d e : Draft) (texts : List (List ℕ)) → AllByRecursion (IsClean is_inside) texts → lines_at n d texts ≡ Ok e
    → IsSound d → IsSound e
unfolding lines_at
lines_sound n d e [] c h s = subst IsSound (same_ok d e h) s
lines_sound n d e (text ∷ texts) c h s =
    let a = parted (line_at n d text) _ _ h in
    lines_sound (n + 1) a.value e texts c.1 a.next (line_at_sound (is_skipped text) n d a.value text c.0 a.first s)

no_fates : (let m : fin.FinMap nat_cmp Fate = fin.empty in AreFates m)
no_fates n fate h = let none : None ≡ Some fate = sym (fin.get-empty nat_cmp n) ∙ h in absurd cc

nothing_sound : (most : ℕ) → IsSound (nothing most)
nothing_sound most = record {
  head = record { values = none_sound most; fates = no_fates };
  attempts = record {
    attempts = λ tasks t o. tt;
    few = omega arith;
    counted = omega arith;
    few_files = omega arith;
    measured = omega arith;
    few_bytes = omega arith;
  };
  events = tt;
  few = omega arith;
  early = (refl, refl);
}

magic_fits : (c : Committer) (m : Option (ℕ × Mode)) (u : Option (ℕ × Bool)) (mode : Mode) (unique : Bool) → mode_in c m ≡ Ok mode
    → unique_in c u ≡ Ok unique → FitsMagic c mode unique
magic_fits c m u mode unique h k = grind arith

-- A required value, which exists.
there : {A : Type 0} (P : A → Type 0) (o : Option A) (x : A) → need o MissingHead ≡ Ok x → IfSome o P → P x
there P o x h b = grind arith

or_else : {A : Type 0} (P : A → Type 0) (o : Option A) (default : A) → P default → IfSome o P → P (unwrap_or o default)
or_else P o default d b = grind arith

-- A weaker bound.
some_weaker : {A : Type 0} (P Q : A → Type 0) (o : Option A) → ((x : A) → P x → Q x) → IfSome o P → IfSome o Q
some_weaker P Q o f b = grind arith

inside_none : (o : Option ℕ) (u : ⊤) → all_inside o ≡ Ok u → o ≡ None
inside_none o u h = grind arith

complete_sound : (d : Draft) (s : Script) → complete d ≡ Ok s → IsSound d → IsLegal s
unfolding complete
complete_sound d s h is =
    let a = parted (need d.head.job MissingHead) _ _ h in
    let b = parted (need d.head.dest MissingHead) _ _ a.next in
    let c = parted (need d.head.committer MissingHead) _ _ b.next in
    let f = parted (need d.head.tasks MissingHead) _ _ c.next in
    let g = parted (mode_in c.value d.head.mode) _ _ f.next in
    let k = parted (unique_in c.value d.head.unique) _ _ g.next in
    let l = parted (all_inside d.outside) _ _ k.next in
    let values = is.head.values in
    let lanes = or_else (Holds head.Lanes) d.head.lanes 1 (omega arith, omega arith) (values head.Lanes) in
    subst IsLegal (same_ok _ s l.next)
    (record {
      job = there (Holds head.Job) d.head.job a.value a.first (values head.Job);
      dest = there (Holds head.Dest) d.head.dest b.value b.first (values head.Dest);
      magic = magic_fits c.value d.head.mode d.head.unique g.value k.value g.first k.first;
      tasks = (there (Holds head.Tasks) d.head.tasks f.value f.first (values head.Tasks)).1;
      retries = (or_else (Holds head.Retries) d.head.retries 3 (omega arith, omega arith) (values head.Retries)).1;
      block = or_else (λ n. n ≤ 67108864) d.head.block 0 (omega arith) (some_weaker (Holds head.Block) (λ n. n ≤ 67108864) d.head.block
          (λ n b. b.1) (values head.Block));
      one_lane = lanes.0;
      few_lanes = lanes.1;
      stamp = some_weaker (Holds head.Stamp) (λ n. n < 10 ^ 18) d.head.stamp (λ n b. omega (arith, b.1)) (values head.Stamp);
      fates = is.head.fates;
      attempts = is.attempts.attempts f.value (needed d.head.tasks MissingHead f.value f.first) (inside_none d.outside l.value l.first);
      few_attempts = is.attempts.few;
      few_files = omega (arith, is.attempts.counted, is.attempts.few_files);
      few_bytes = omega (arith, is.attempts.measured, is.attempts.few_bytes);
      events = is.events;
      few_events = is.few;
    })

-- A script that lines in UTF-8 mean keeps the bounds.
pub draft_legal : (most : ℕ) (bytes : List ℕ) (d : Draft) → is_utf8 bytes ≡ true → lines_at 1 (nothing most) (lines_of bytes) ≡ Ok d
    → (s : Script) → complete d ≡ Ok s → IsLegal s
draft_legal most bytes d utf8 h s k =
    complete_sound d s k (lines_sound 1 (nothing most) d (lines_of bytes) (text_clean bytes utf8) h (nothing_sound most))
