-- Paths below the directories that attempts write into.
use Rattle.audit_claims.proofs.Dirs.{any_at, any_some, both_true, same_truth}
use Rattle.audit_claims.specs.Claims.{Tags}
use Rattle.audit_claims.specs.Directories.{all_write, always_writes, files_of, has_dir, some_always_reaches, some_reaches, some_writes}
use Rattle.text_and_lists.proofs.Members.{false_true, text_is, text_true}
use Rattle.text_and_lists.specs.Order.{text_eq}
use Rattle.judging.specs.Listed.{Listed, Numbered}
use Rattle.soundness.specs.Claims.{Attempts, Files, always_reaches, directory, is_below, reaches, writes_into}
use Rattle.std.proofs.Common.{Bool, List, ap, false, refl, sym, true, ℕ, [], ◌&&◌, ◌||◌, ◌∙◌, ◌∷◌, ◌≡◌}
use Rattle.std.proofs.lemmas.Bool.{and_parts}
use Rattle.std.specs.List.{list_all, list_any}

writes_reaches : (d p : List ℕ) (files : Files Tags) → is_below d p ≡ true → writes_into d files ≡ true → reaches p files ≡ true
writes_reaches d p files b w =
    let o = any_some (λ file. text_eq d (directory file.0)) files w in
    any_at (λ file. is_below (directory file.0) p) files o.0 o.1
    (ap (λ (e : List ℕ). is_below e p) (sym (text_is d (directory o.0.0) o.2)) ∙ b)

-- A directory that some attempt writes into, and that the path is below.
pub record Through (p : List ℕ) (has : List ℕ → Bool) : Type 0 where
  pub dir : List ℕ
  pub below : is_below dir p ≡ true
  pub there : has dir ≡ true

through_dirs : (p : List ℕ) (dirs : List (List ℕ)) → list_any (λ d. is_below d p) dirs ≡ true → Through p (λ d. has_dir d dirs)
through_dirs p dirs h =
    let o = any_some (λ d. is_below d p) dirs h in
    record { dir = o.0; below = o.2; there = any_at (text_eq o.0) dirs o.0 o.1 (text_true o.0 o.0 refl) }

dirs_through : (p : List ℕ) (dirs : List (List ℕ)) (d : List ℕ) → is_below d p ≡ true → has_dir d dirs ≡ true
    → list_any (λ e. is_below e p) dirs ≡ true
dirs_through p dirs d b h =
    let o = any_some (text_eq d) dirs h in
    any_at (λ e. is_below e p) dirs o.0 o.1 (ap (λ (e : List ℕ). is_below e p) (sym (text_is d o.0 o.2)) ∙ b)

some_to : (d p : List ℕ) (listed : Listed Tags) → is_below d p ≡ true → some_writes d listed ≡ true → some_reaches p listed ≡ true
some_to d p listed b h =
    let x = any_some (λ x. list_any (writes_into d) (files_of x.1)) listed h in
    let a = any_some (writes_into d) (files_of x.0.1) x.2 in
    any_at (λ x. list_any (reaches p) (files_of x.1)) listed x.0 x.1
    (any_at (reaches p) (files_of x.0.1) a.0 a.1 (writes_reaches d p a.0 b a.2))

some_from : (p : List ℕ) (listed : Listed Tags) → some_reaches p listed ≡ true → Through p (λ d. some_writes d listed)
some_from p listed h =
    let x = any_some (λ x. list_any (reaches p) (files_of x.1)) listed h in
    let a = any_some (reaches p) (files_of x.0.1) x.2 in
    let f = any_some (λ file. is_below (directory file.0) p) a.0 a.2 in
    let d = directory f.0.0 in
    let into : writes_into d a.0 ≡ true = any_at (λ file. text_eq d (directory file.0)) a.0 f.0 f.1 (text_true d d refl) in
    record {
      dir = d;
      below = f.2;
      there = any_at (λ x. list_any (writes_into d) (files_of x.1)) listed x.0 x.1 (any_at (writes_into d) (files_of x.0.1) a.0 a.1 into);
    }

pub reached_is : (p : List ℕ) (listed : Listed Tags) (dirs : List (List ℕ)) → ((d : List ℕ) → has_dir d dirs ≡ some_writes d listed)
    → list_any (λ d. is_below d p) dirs ≡ some_reaches p listed
reached_is p listed dirs e = same_truth (list_any (λ d. is_below d p) dirs) (some_reaches p listed)
    (λ h. let t = through_dirs p dirs h in some_to t.dir p listed t.below (sym (e t.dir) ∙ t.there))
    (λ h. let t = some_from p listed h in dirs_through p dirs t.dir t.below (e t.dir ∙ t.there))

all_to : (d p : List ℕ) (task : Attempts Tags) → is_below d p ≡ true → all_write d task ≡ true → always_reaches p task ≡ true
all_to d p [] b h = absurd (false_true refl h)
all_to d p (files ∷ others) b h =
    let both = and_parts (writes_into d files) (list_all (writes_into d) others) h in
    let o = any_some (λ file. text_eq d (directory file.0)) files both.0 in
    let same : d ≡ directory o.0.0 = text_is d (directory o.0.0) o.2 in
    any_at (λ file. is_below (directory file.0) p && list_all (writes_into (directory file.0)) others) files o.0 o.1
    (ap (λ (e : List ℕ). is_below e p && list_all (writes_into e) others) (sym same)
    ∙ both_true (is_below d p) (list_all (writes_into d) others) b both.1)

all_from : (p : List ℕ) (task : Attempts Tags) → always_reaches p task ≡ true → Through p (λ d. all_write d task)
all_from p [] h = absurd (false_true refl h)
all_from p (files ∷ others) h =
    let o = any_some (λ file. is_below (directory file.0) p && list_all (writes_into (directory file.0)) others) files h in
    let d = directory o.0.0 in
    let both = and_parts (is_below d p) (list_all (writes_into d) others) o.2 in
    let into : writes_into d files ≡ true = any_at (λ file. text_eq d (directory file.0)) files o.0 o.1 (text_true d d refl) in
    record { dir = d; below = both.0; there = both_true (writes_into d files) (list_all (writes_into d) others) into both.1 }

always_to : (d p : List ℕ) (listed : Listed Tags) → is_below d p ≡ true → always_writes d listed ≡ true
    → some_always_reaches p listed ≡ true
always_to d p listed b h =
    let x = any_some (λ x. all_write d (files_of x.1)) listed h in
    any_at (λ x. always_reaches p (files_of x.1)) listed x.0 x.1 (all_to d p (files_of x.0.1) b x.2)

always_from : (p : List ℕ) (listed : Listed Tags) → some_always_reaches p listed ≡ true → Through p (λ d. always_writes d listed)
always_from p listed h =
    let x = any_some (λ x. always_reaches p (files_of x.1)) listed h in
    let t = all_from p (files_of x.0.1) x.2 in
    record { dir = t.dir; below = t.below; there = any_at (λ x. all_write t.dir (files_of x.1)) listed x.0 x.1 t.there }

pub always_is : (p : List ℕ) (listed : Listed Tags) (dirs : List (List ℕ)) → ((d : List ℕ) → has_dir d dirs ≡ always_writes d listed)
    → list_any (λ d. is_below d p) dirs ≡ some_always_reaches p listed
always_is p listed dirs e = same_truth (list_any (λ d. is_below d p) dirs) (some_always_reaches p listed)
    (λ h. let t = through_dirs p dirs h in always_to t.dir p listed t.below (sym (e t.dir) ∙ t.there))
    (λ h. let t = always_from p listed h in dirs_through p dirs t.dir t.below (e t.dir ∙ t.there))

-- So far the directories of all listed tasks but these are in the two sets.
pub record IsCollecting (listed : Listed Tags) (some always : List (List ℕ)) (rest : Listed Tags) : Type 0 where
  pub in_some : (d : List ℕ) → (has_dir d some || some_writes d rest) ≡ some_writes d listed
  pub in_always : (d : List ℕ) → (has_dir d always || always_writes d rest) ≡ always_writes d listed

or_first : (b c d : Bool) → ((b || c) || d) ≡ (b || (c || d))
or_first true c d = refl
or_first false c d = refl

pub collects : (listed : Listed Tags) (some always more next shared : List (List ℕ)) (left rest : Listed Tags) (t : ℕ) (ns : Numbered Tags)
    → IsCollecting listed some always left → left ≡ (t, ns) ∷ rest
    → ((d : List ℕ) → has_dir d more ≡ (has_dir d some || list_any (writes_into d) (files_of ns)))
    → ((d : List ℕ) → has_dir d shared ≡ all_write d (files_of ns))
    → ((d : List ℕ) → has_dir d next ≡ (has_dir d always || has_dir d shared)) → IsCollecting listed more next rest
collects listed some always more next shared left rest t ns h steps grown own wider = record {
  in_some = λ d.
      ap (λ b. b || some_writes d rest) (grown d)
      ∙ or_first (has_dir d some) (list_any (writes_into d) (files_of ns)) (some_writes d rest)
      ∙ ap (λ (l : Listed Tags). has_dir d some || some_writes d l) (sym steps) ∙ h.in_some d;
  in_always = λ d.
      ap (λ b. b || always_writes d rest) (wider d ∙ ap (λ b. has_dir d always || b) (own d))
      ∙ or_first (has_dir d always) (all_write d (files_of ns)) (always_writes d rest)
      ∙ ap (λ (l : Listed Tags). has_dir d always || always_writes d l) (sym steps) ∙ h.in_always d;
}
