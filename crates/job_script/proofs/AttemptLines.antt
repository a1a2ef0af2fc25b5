-- The lines of attempts and their files. Reading a printed line gives its attempt or file, and what is read keeps the bounds.
use Rattle.text_and_lists.proofs.Lists.{one_longer}
use Rattle.text_and_lists.proofs.Reading.{needed, parted}
use Rattle.text_and_lists.proofs.Round.{number_in-decimal, two_numbers}
use Rattle.text_and_lists.specs.Parts.{parts_of}
use Rattle.text_and_lists.specs.Reading.{check, need, ◌>>=◌}
use Rattle.text_and_lists.specs.Shapes.{two_and_more}
use Rattle.job_model.specs.Attempts.{Declared, declares, last_files, with_file}
use Rattle.job_model.specs.Files.{File, has_path}
use Rattle.job_model.specs.Legal.{AreAttempts, AreFiles, IsFile, IsScriptWord, bytes_in, bytes_of, files_in}
use Rattle.job_model.specs.Paths.{is_hidden, is_path}
use Rattle.job_model.specs.declared.attempts.AttemptName.{AttemptName}
use Rattle.job_script.proofs.FileBytes.{content_sound, hex_again, hex_lettered}
use Rattle.job_script.proofs.HeadLines.{drafted}
use Rattle.job_script.proofs.Lines.{Goes, IsPrinted, each_goes, goes_on, goes_through, lettered_word, plain_last, printed, said}
use Rattle.job_script.proofs.Words.{decimal_letters, is_lettered, lettered, letters_end, literal_word, number_bounds}
use Rattle.job_script.specs.AttemptLines.{attempt_at, file_at, name_at, outside_at}
use Rattle.job_script.specs.Content.{content_at, hex_at, hex_bytes}
use Rattle.job_script.specs.Print.{attempt_lines, file_line, hex_word}
use Rattle.job_script.specs.Script.{enters, said_at, words_at}
use Rattle.job_script.specs.declared.draft.Draft.{Draft}
use Rattle.job_script.specs.declared.draft.Group.{Group}
use Rattle.job_script.specs.declared.fault.ScriptFault.{ScriptFault}
use Rattle.job_script.specs.declared.fault.ScriptFault.TheVariants.{BadLine, BadPath, HiddenPath, RepeatedName, TooLarge}
use Rattle.job_script.specs.declared.head.Head.{Head}
use Rattle.s3_types.specs.Spelling.{actor_text}
use Rattle.std.proofs.Common.{Bool, List, None, Ok, Option, Some, ap, append_assoc, arith, decimal, false, length, lit<, map, refl, subst}
use Rattle.std.proofs.Common.{sym, true, ℕ, [], ◌++◌, ◌+◌, ◌<◌, ◌∙◌, ◌∷◌, ◌≡◌, ◌≤◌}
use Rattle.std.proofs.lemmas.Bool.{le-leb, leb-true, lt-ltb, ltb-true}
use Rattle.std.proofs.lemmas.List.{append-nil, length-append}
use Rattle.std.specs.List.{AllByRecursion, flat_map}
use Rattle.std.specs.Option.{option_or}
use Rattle.std.specs.Prelude.{codes, nat_le, nat_lt, not}
use Rattle.s3_types.specs.declared.request.Actor.TheVariants as actor
use Rattle.job_script.specs.declared.draft.Group.TheVariants as group
use Rattle.job_script.specs.declared.kinds.Kind.TheVariants as kind

-- ---- counts

files_end : (xs ys : List Declared) → files_in (xs ++ ys) ≡ files_in xs + files_in ys
files_end [] ys = omega arith
files_end (x ∷ xs) ys = let old = files_end xs ys in omega (arith, old)

bytes_end : (xs ys : List Declared) → bytes_in (xs ++ ys) ≡ bytes_in xs + bytes_in ys
bytes_end [] ys = omega arith
bytes_end (x ∷ xs) ys = let old = bytes_end xs ys in omega (arith, old)

bytes_over : (fs gs : List File) → bytes_of (fs ++ gs) ≡ bytes_of fs + bytes_of gs
bytes_over [] gs = omega arith
bytes_over (f ∷ fs) gs = let old = bytes_over fs gs in omega (arith, old)

-- ---- reading a printed file

last_of : (before : List Declared) (a : Declared) → last_files (before ++ a ∷ []) ≡ a.1
last_of (b ∷ c ∷ cs) a = last_of (c ∷ cs) a
last_of _ a = refl

added_to : (before : List Declared) (name : AttemptName) (fs : List File) (path bytes : List ℕ)
    → with_file (before ++ (name, fs) ∷ []) path bytes ≡ before ++ (name, fs ++ (path, bytes) ∷ []) ∷ []
added_to (b ∷ c ∷ cs) name fs path bytes = ap (λ (l : List Declared). b ∷ l) (added_to (c ∷ cs) name fs path bytes)
added_to _ name fs path bytes = refl

hex_content : (n : ℕ) (word bytes : List ℕ) → hex_bytes word ≡ Some bytes → content_at n (codes "hex") (word ∷ []) ≡ Ok bytes
unfolding content_at hex_at
hex_content n word bytes h = rw h refl

file_from : (n : ℕ) (d : Draft) (path word bytes : List ℕ) → content_at n (codes "hex") (word ∷ []) ≡ Ok bytes → is_path path ≡ true
    → is_hidden path ≡ false → has_path (last_files d.attempts) path ≡ false → d.files < 20000 → d.bytes + length bytes ≤ 67108864
    → file_at n d (path ∷ codes "hex" ∷ word ∷ []) ≡ Ok (record d
    { attempts = with_file d.attempts path bytes; files = d.files + 1; bytes = d.bytes + length bytes })
unfolding file_at
file_from n d path word bytes c a b e f g = rw (c, a, b, e, lt-ltb d.files 20000 f, le-leb (d.bytes + length bytes) 67108864 g) refl

file_printed : (f : File) → IsFile f → IsPrinted (file_line f)
file_printed f h =
    let hex = hex_lettered f.1 in
    record {
      words = (
        literal_word (codes "file") refl,
        (
          h.path.word,
          (literal_word (codes "hex") refl, (lettered_word (hex_word f.1) hex, tt)),
        ),
      );
      kept = plain_last (hex_word f.1) hex;
      shown = refl;
    }

-- Holds if the files of the last attempt keep the limits of the whole script.
record Fits (before : List Declared) (last : List File) : Type 0 where
  pub files : files_in before + length last ≤ 20000
  pub bytes : bytes_in before + bytes_of last ≤ 67108864

module _ (h : Head) (before : List Declared) (name : AttemptName) where
  -- The draft in which the last attempt has these files so far.
  abbrev filed : List File → Draft
  filed fs = drafted group.Attempts h (before ++ (name, fs) ∷ []) []

  file_read : (n : ℕ) (fs : List File) (f : File) → IsFile f → has_path fs f.0 ≡ false → Fits before (fs ++ f ∷ [])
      → words_at n (filed fs) (file_line f) ≡ Ok (filed (fs ++ f ∷ []))
  unfolding said_at
  file_read n fs f is new fits =
      let d = filed fs in
      let longer = one_longer fs f in
      let more = bytes_over fs (f ∷ []) in
      let files = files_end before ((name, fs) ∷ []) in
      let files_more = files_end before ((name, fs ++ f ∷ []) ∷ []) in
      let bytes = bytes_end before ((name, fs) ∷ []) in
      let bytes_more = bytes_end before ((name, fs ++ f ∷ []) ∷ []) in
      let few = fits.files in
      let short = fits.bytes in
      let count : files_in (before ++ (name, fs) ∷ []) + 1 ≡ files_in (before ++ (name, fs ++ f ∷ []) ∷ []) = omega arith in
      let size : bytes_in (before ++ (name, fs) ∷ []) + length f.1 ≡ bytes_in (before ++ (name, fs ++ f ∷ []) ∷ []) = omega arith in
      let fresh : has_path (last_files d.attempts) f.0 ≡ false = ap (λ (l : List File). has_path l f.0) (last_of before (name, fs)) ∙ new in
      said n (codes "file") kind.File group.Attempts (f.0 ∷ codes "hex" ∷ hex_word f.1 ∷ []) d (filed (fs ++ f ∷ [])) refl refl
      (file_from n d f.0 (hex_word f.1) f.1 (hex_content n (hex_word f.1) f.1 (hex_again f.1 is.bytes)) is.path.stated is.path.shown fresh
      (omega arith) (omega arith)
      ∙ (λ i. Ok (record d { attempts = added_to before name fs f.0 f.1 i; files = count i; bytes = size i })))

  files_go : (n : ℕ) (fs : List File) → AreFiles [] fs → Fits before fs → Goes n (filed []) (map file_line fs) (filed fs)
  files_go n fs are fits =
      each_goes (λ f. file_line f ∷ []) (map file_line) refl (λ f more. refl) filed fs AreFiles (λ m done f more all is.
      let start : fs ≡ (done ++ f ∷ []) ++ more = sym all ∙ sym (append_assoc done (f ∷ []) more) in
      let long : length fs ≡ length (done ++ f ∷ []) + length more = ap length start ∙ length-append (done ++ f ∷ []) more in
      let size : bytes_of fs ≡ bytes_of (done ++ f ∷ []) + bytes_of more = ap bytes_of start ∙ bytes_over (done ++ f ∷ []) more in
      let few = fits.files in
      let short = fits.bytes in (
        goes_on m (filed done) (filed (done ++ f ∷ [])) (file_line f) (file_printed f is.0)
            (file_read m done f is.0 is.1 (record { files = omega arith; bytes = omega arith })),
        is.2,
      )) n [] fs refl are

-- ---- reading a printed attempt

name_from : (n t a : ℕ) (parts : List (List ℕ)) (word : List ℕ) → parts_of 46 word ≡ parts → parts ≡ decimal t ∷ decimal a ∷ [] → t ≤ 999
    → a ≤ 99 → name_at n word ≡ Ok (record { task = t; attempt = a })
unfolding name_at
name_from n t a parts word e f g h = rw (
  e,
  f,
  number_in-decimal 0 999 t (omega arith) g (lit< tt),
  number_in-decimal 0 99 a (omega arith) h
      (lit< tt),
) refl

-- T.A is read as the name of the attempt.
pub name_again : (n t a : ℕ) → t ≤ 999 → a ≤ 99 → name_at n (actor_text (actor.Attempt t a)) ≡ Ok (record { task = t; attempt = a })
name_again n t a g h = name_from n t a (decimal t ∷ decimal a ∷ []) (actor_text (actor.Attempt t a))
    (two_numbers 46 t a (lit< tt) (omega (arith, g)) (omega (arith, h))) refl g h

some_dot : (xs ys : List ℕ) → 0 < length (xs ++ 46 ∷ ys)
some_dot [] ys = omega arith
some_dot (x ∷ xs) ys = omega arith

pub name_lettered : (t a : ℕ) → t ≤ 999 → a ≤ 99 → is_lettered (actor_text (actor.Attempt t a)) ≡ true
name_lettered t a g h =
    lettered (actor_text (actor.Attempt t a)) (some_dot (decimal t) (decimal a))
    (letters_end (decimal t) (46 ∷ decimal a) (decimal_letters t (omega (arith, g)))
    (letters_end (46 ∷ []) (decimal a) refl (decimal_letters a (omega (arith, h)))))

-- The group after some lines of a group.
abbrev pub group_after : {A : Type 0} → Group → Group → List A → Group
group_after g k [] = g
group_after g k (x ∷ xs) = k

pub group_ended : {A : Type 0} (g k : Group) (xs : List A) (x : A) → group_after g k (xs ++ x ∷ []) ≡ k
group_ended g k [] x = refl
group_ended g k (y ∷ xs) x = refl

attempts_enter : (all : List Declared) → enters kind.Attempt (group_after group.Head group.Attempts all) ≡ Some group.Attempts
attempts_enter [] = refl
attempts_enter (a ∷ all) = refl

attempt_from : (n : ℕ) (h : Head) (all : List Declared) (tasks : ℕ) (word : List ℕ) (name : AttemptName) → name_at n word ≡ Ok name
    → h.tasks ≡ Some tasks → declares all name ≡ false → length all < 2000 → name.task < tasks
    → attempt_at n (drafted group.Attempts h all []) (word ∷ []) ≡ Ok (record (drafted group.Attempts h all [])
    { attempts = all ++ (name, []) ∷ [] })
unfolding attempt_at
attempt_from n h all tasks word name a t new few inside = rw (a, new, lt-ltb (length all) 2000 few, t, lt-ltb name.task tasks inside) refl

-- Holds if the counts of attempts, files and bytes keep their limits.
pub record AreFew (all : List Declared) : Type 0 where
  pub attempts : length all ≤ 2000
  pub files : files_in all ≤ 20000
  pub bytes : bytes_in all ≤ 67108864

module _ (h : Head) (tasks : ℕ) (given : h.tasks ≡ Some tasks) (most : tasks ≤ 1000) where
  -- The draft after these attempts.
  abbrev attempted : List Declared → Draft
  attempted all = drafted (group_after group.Head group.Attempts all) h all []

  -- Reading the lines of an attempt adds the attempt and its files.
  attempt_goes : (n : ℕ) (before : List Declared) (a : Declared) → a.0.task < tasks → a.0.attempt ≤ 99 → declares before a.0 ≡ false
      → AreFiles [] a.1 → length before < 2000 → Fits before a.1
      → Goes n (attempted before) (attempt_lines a) (attempted (before ++ a ∷ []))
  unfolding said_at
  attempt_goes n before a task attempt new are few fits =
      let text = actor_text (actor.Attempt a.0.task a.0.attempt) in
      let t : a.0.task ≤ 999 = omega (arith, task, most) in
      let next = drafted group.Attempts h (before ++ (a.0, []) ∷ []) [] in
      let files : files_in before ≡ files_in (before ++ (a.0, []) ∷ []) = omega (arith, files_end before ((a.0, []) ∷ [])) in
      let bytes : bytes_in before ≡ bytes_in (before ++ (a.0, []) ∷ []) = omega (arith, bytes_end before ((a.0, []) ∷ [])) in
      subst (λ (g : Group). Goes n (attempted before) (attempt_lines a) (drafted g h (before ++ a ∷ []) []))
      (sym (group_ended group.Head group.Attempts before a))
      (goes_through n (attempted before) ((codes "attempt" ∷ text ∷ []) ∷ []) next (map file_line a.1)
      (drafted group.Attempts h (before ++ a ∷ []) [])
      (goes_on n (attempted before) next (codes "attempt" ∷ text ∷ []) (printed (codes "attempt") (text ∷ [])
      (rw (name_lettered a.0.task a.0.attempt t attempt) refl) refl)
      (said n (codes "attempt") kind.Attempt group.Attempts (text ∷ []) (attempted before) next refl (attempts_enter before)
      (attempt_from n h before tasks text a.0 (name_again n a.0.task a.0.attempt t attempt) given new few task
      ∙ (λ i. Ok (record next { files = files i; bytes = bytes i })))))
      (files_go h before a.0 (n + 1) a.1 are fits))

  pub attempts_go : (n : ℕ) (all : List Declared) → AreAttempts tasks [] all → AreFew all
      → Goes n (attempted []) (flat_map attempt_lines all) (attempted all)
  attempts_go n all are few =
      each_goes attempt_lines (flat_map attempt_lines) refl (λ a more. refl) attempted all (AreAttempts tasks) (λ m before a more whole is.
      let long : length all ≡ length before + length (a ∷ more) = ap length (sym whole) ∙ length-append before (a ∷ more) in
      let count : files_in all ≡ files_in before + files_in (a ∷ more) = ap files_in (sym whole) ∙ files_end before (a ∷ more) in
      let size : bytes_in all ≡ bytes_in before + bytes_in (a ∷ more) = ap bytes_in (sym whole) ∙ bytes_end before (a ∷ more) in
      let some = few.attempts in
      let files = few.files in
      let bytes = few.bytes in
      (attempt_goes m before a is.0 is.1 is.2 is.3 (omega arith) (record { files = omega arith; bytes = omega arith }), is.4)) n [] all refl
      are

-- ---- what is read keeps the bounds

files_more : (before fs : List File) (f : File) → IsFile f → has_path (before ++ fs) f.0 ≡ false → AreFiles before fs
    → AreFiles before (fs ++ f ∷ [])
files_more before [] f is new h = (is, subst (λ (l : List File). has_path l f.0 ≡ false) (append-nil before) new, tt)
files_more before (g ∷ fs) f is new h = (
  h.0,
  h.1,
  files_more (before ++ g ∷ []) fs f is (subst (λ (l : List File). has_path l f.0 ≡ false)
      (sym (append_assoc before (g ∷ []) fs)) new) h.2,
)

attempts_more : (tasks : ℕ) (before all : List Declared) (name : AttemptName) → name.task < tasks → name.attempt ≤ 99
    → declares (before ++ all) name ≡ false → AreAttempts tasks before all → AreAttempts tasks before (all ++ (name, []) ∷ [])
attempts_more tasks before [] name task attempt new h = (
  task,
  attempt,
  subst (λ (l : List Declared). declares l name ≡ false)
      (append-nil before) new,
  tt,
  tt,
)
attempts_more tasks before (a ∷ rest) name task attempt new h = (
  h.0,
  h.1,
  h.2,
  h.3,
  attempts_more tasks (before ++ a ∷ []) rest name task attempt
      (subst (λ (l : List Declared). declares l name ≡ false) (sym (append_assoc before (a ∷ []) rest)) new) h.4,
)

file_more : (tasks : ℕ) (before all : List Declared) (path bytes : List ℕ) → IsFile (path, bytes) → has_path (last_files all) path ≡ false
    → AreAttempts tasks before all → AreAttempts tasks before (with_file all path bytes)
file_more tasks before [] path bytes is new h = h
file_more tasks before (a ∷ []) path bytes is new h = (h.0, h.1, h.2, files_more [] a.1 (path, bytes) is new h.3, tt)
file_more tasks before (a ∷ b ∷ rest) path bytes is new h = (
  h.0,
  h.1,
  h.2,
  h.3,
  file_more tasks (before ++ a ∷ []) (b ∷ rest) path bytes is
      new h.4,
)

-- A new file adds no attempt, at most one file, and at most its bytes.
counted : (all : List Declared) (path bytes : List ℕ) → (length (with_file all path bytes) ≡ length all)
    × (files_in (with_file all path bytes) ≤ files_in all + 1) × (bytes_in (with_file all path bytes) ≤ bytes_in all + length bytes)
counted [] path bytes = (refl, omega arith, omega arith)
counted (a ∷ []) path bytes =
    let more = one_longer a.1 (path, bytes) in
    let size = bytes_over a.1 ((path, bytes) ∷ []) in
    (refl, omega (arith, more), omega (arith, size))
counted (a ∷ b ∷ rest) path bytes = let old = counted (b ∷ rest) path bytes in
    (omega (arith, old.0), omega (arith, old.1), omega (arith, old.2))

-- The bounds of the attempts so far, with the number of tasks and the line of the first attempt outside it.
pub record IsSoundAttempts (given outside : Option ℕ) (all : List Declared) (files bytes : ℕ) : Type 0 where
  pub attempts : (tasks : ℕ) → given ≡ Some tasks → outside ≡ None → AreAttempts tasks [] all
  pub few : length all ≤ 2000
  pub counted : files_in all ≤ files
  pub few_files : files ≤ 20000
  pub measured : bytes_in all ≤ bytes
  pub few_bytes : bytes ≤ 67108864

-- Holds if a line changed only attempts and their counts, and they keep the bounds.
pub record Grown (d e : Draft) : Type 0 where
  pub outside : Option ℕ
  pub all : List Declared
  pub files : ℕ
  pub bytes : ℕ
  pub sound : IsSoundAttempts d.head.tasks outside all files bytes
  pub is : record d { attempts = all; outside = outside; files = files; bytes = bytes } ≡ e

-- Holds if the numbers of a name are in their ranges.
record IsName (name : AttemptName) : Type 0 where
  pub task : name.task ≤ 999
  pub attempt : name.attempt ≤ 99

name_sound : (n : ℕ) (word : List ℕ) (name : AttemptName) → name_at n word ≡ Ok name → IsName name
unfolding name_at
name_sound n word name h = grind (arith, number_bounds)

none_of : (a b : Option ℕ) → option_or a b ≡ None → (a ≡ None) × (b ≡ None)
none_of a b h = grind arith

inside : (n : ℕ) (o : Option ℕ) (tasks : ℕ) (name : AttemptName) → o ≡ Some tasks → outside_at n o name ≡ None → name.task < tasks
inside n o tasks name e h = grind arith

attempt_parts : (n : ℕ) (d e : Draft) (values : List (List ℕ)) → attempt_at n d values ≡ Ok e
    → (name : AttemptName) × IsName name × (declares d.attempts name ≡ false) × (length d.attempts < 2000)
    × (record d { attempts = d.attempts ++ (name, []) ∷ []; outside = option_or d.outside (outside_at n d.head.tasks name) } ≡ e)
unfolding attempt_at
attempt_parts n d e values h = grind (arith, name_sound)

pub attempt_sound : (n : ℕ) (d e : Draft) (values : List (List ℕ)) → attempt_at n d values ≡ Ok e
    → IsSoundAttempts d.head.tasks d.outside d.attempts d.files d.bytes → Grown d e
attempt_sound n d e values h s =
    let p = attempt_parts n d e values h in
    let name = p.0 in
    let longer = one_longer d.attempts (name, []) in
    let files = files_end d.attempts ((name, []) ∷ []) in
    let bytes = bytes_end d.attempts ((name, []) ∷ []) in
    let few = p.3 in
    record {
      outside = option_or d.outside (outside_at n d.head.tasks name);
      all = d.attempts ++ (name, []) ∷ [];
      files = d.files;
      bytes = d.bytes;
      sound = record {
        attempts = λ tasks t o. let q = none_of d.outside (outside_at n d.head.tasks name) o in attempts_more tasks [] d.attempts name
            (inside n d.head.tasks tasks name t q.1) p.1.attempt p.2 (s.attempts tasks t q.0);
        few = omega (arith, few, longer);
        counted = omega (arith, files, s.counted);
        few_files = s.few_files;
        measured = omega (arith, bytes, s.measured);
        few_bytes = s.few_bytes;
      };
      is = p.4;
    }

both_words : (values : List (List ℕ)) (w v : List ℕ) (more : List (List ℕ)) → two_and_more values ≡ Some (w, v, more)
    → AllByRecursion IsScriptWord values → IsScriptWord w × AllByRecursion IsScriptWord more
both_words values w v more h all = grind arith

five_checks : (a b c f g : Bool) (v w x y z : ScriptFault) (d e : Draft)
    → (check a v >>= λ stated. check (not b) w >>= λ seen. check (not c) x >>= λ new. check f y >>= λ few. check g z >>= λ short. Ok d) ≡ Ok
    e → (a ≡ true) × (b ≡ false) × (c ≡ false) × (f ≡ true) × (g ≡ true) × (d ≡ e)
five_checks a b c f g v w x y z d e h = grind arith

pub file_sound : (n : ℕ) (d e : Draft) (values : List (List ℕ)) → AllByRecursion IsScriptWord values → file_at n d values ≡ Ok e
    → IsSoundAttempts d.head.tasks d.outside d.attempts d.files d.bytes → Grown d e
unfolding file_at
file_sound n d e values all h s =
    let a = parted (need (two_and_more values) (BadLine n)) _ _ h in
    let b = parted (content_at n a.value.1 a.value.2) _ _ a.next in
    let path = a.value.0 in
    let words = both_words values path a.value.1 a.value.2 (needed (two_and_more values) (BadLine n) a.value a.first) all in
    let bytes = content_sound n a.value.1 a.value.2 b.value words.1 b.first in
    let p = five_checks (is_path path) (is_hidden path) (has_path (last_files d.attempts) path) (nat_lt d.files 20000)
    (nat_le (d.bytes + length b.value) 67108864) (BadPath n) (HiddenPath n) (RepeatedName n) TooLarge TooLarge _ e b.next in
    let more = counted d.attempts path b.value in
    let few : d.files < 20000 = ltb-true _ _ p.3 in
    record {
      outside = d.outside;
      all = with_file d.attempts path b.value;
      files = d.files + 1;
      bytes = d.bytes + length b.value;
      sound = record {
        attempts = λ tasks t o. file_more tasks [] d.attempts path b.value (record
            { path = record { stated = p.0; shown = p.1; word = words.0 }; bytes = bytes }) p.2 (s.attempts tasks t o);
        few = omega (arith, more.0, s.few);
        counted = omega (arith, more.1, s.counted);
        few_files = omega (arith, few);
        measured = omega (arith, more.2, s.measured);
        few_bytes = leb-true _ _ p.4;
      };
      is = p.5;
    }
