-- What the file of a log stands for during an append.
use Rattle.folder_log.proofs.Moments.{goes_on, started}
use Rattle.folder_log.specs.Disk.{Elapses, File, IsRead, Only, Settles, ShowsNow, file_length}
use Rattle.folder_log.specs.Kept.{IsAtRest, IsSettled, TakesAppends, as_holding}
use Rattle.folder_log.specs.inner.Kept.{IsClosed, IsLeftOf, IsPrepared, IsSure, Leaves, holding_of}
use Rattle.folder_log.specs.Kept.{stored, stored_of}
use Rattle.log_format.proofs.Files.{file_again}
use Rattle.log_format.specs.Change.{IsChange}
use Rattle.log_format.specs.Log.{head, headed, log, long, magic, opened, record_of}
use Rattle.log_format.specs.declared.logged_store.LoggedStore.{LoggedStore}
use Rattle.s3_types.specs.declared.request.Request.{Request}
use Rattle.devices.specs.Logged.{Holding, HoldsFresh, HoldsGrown, HoldsOneOf, IsBeforeOrAfter, IsDurable, LeavesOnly, Stored, fresh, grown}
use Rattle.devices.specs.Logged.{most_file, told}
use Rattle.devices.specs.Logged.Holding.{Stands}
use Rattle.std.proofs.Common.{List, None, Option, Some, ap, append_assoc, arith, inl, inr, length, length-append, refl, subst, sym}
use Rattle.std.proofs.Common.{true≢false, ℕ, [], ⊎_elim, ◌++◌, ◌+◌, ◌<◌, ◌^◌, ◌∙◌, ◌∷◌, ◌≡◌, ◌≢◌, ◌≤◌, ◌⊎◌}
use Rattle.std.proofs.lemmas.Bool.{cases_eq}
use Rattle.std.proofs.lemmas.Grind.{flat_map-append}
use Rattle.std.proofs.lemmas.List.{append-nil}
use Rattle.std.specs.List.{AllByRecursion}
use Rattle.std.specs.Prelude.{is_some}

-- ---- what files hold

module _ (base : List ℕ) (changes : List Request) (legal : AllByRecursion IsChange changes) where
  abbrev front : List ℕ
  front = headed base ++ opened changes

  abbrev here : LoggedStore
  here = record { base = base; changes = changes }

  -- A file whose gate after the changes is not open stands for these changes.
  pub closed_holds : (gate : ℕ) (rest : List ℕ) → gate ≢ 1 → length (front ++ gate ∷ rest) < 2 ^ 64
      → holding_of (Some (front ++ gate ∷ rest)) ≡ Stands here
  closed_holds gate rest closed fits =
      ap as_holding (file_again (front ++ gate ∷ rest) here fits (inr
      (record {
        gate = gate;
        behind = rest;
        not_open = closed;
        spelled = append_assoc (headed base) (opened changes) (gate ∷ rest);
        legal = legal;
      })))

  pub rest_is : log base changes ≡ front ++ 0 ∷ []
  rest_is = sym (append_assoc (headed base) (opened changes) (0 ∷ []))

  module _ (change : Request) (is : IsChange change) where
    abbrev more : List Request
    more = changes ++ change ∷ []

    all_legal : (cs : List Request) → AllByRecursion IsChange cs → AllByRecursion IsChange (cs ++ change ∷ [])
    all_legal [] h = (is, tt)
    all_legal (c ∷ cs) h = (h.0, all_legal cs h.1)

    pub more_legal : AllByRecursion IsChange more
    more_legal = all_legal changes legal

    opened_more : opened more ≡ opened changes ++ 1 ∷ record_of change
    opened_more = flat_map-append (λ c. 1 ∷ record_of c) changes (change ∷ []) ∙ ap (λ (l : List ℕ). opened changes ++ l)
        (append-nil (1 ∷ record_of change))

    -- An open gate and the record after it are one change more.
    pub opened_is : (rest : List ℕ) → front ++ 1 ∷ (record_of change ++ rest) ≡ (headed base ++ opened more) ++ rest
    opened_is rest =
        sym (append_assoc front (1 ∷ record_of change) rest)
        ∙ ap (λ (l : List ℕ). l ++ rest) (append_assoc (headed base) (opened changes) (1 ∷ record_of change) ∙ ap
        (λ (l : List ℕ). headed base ++ l) (sym opened_more))

-- With any gate and the record after it, the file stands for the changes with or without the record's.
pub gate_holds : (base : List ℕ) (changes : List Request) (legal : AllByRecursion IsChange changes) (change : Request) → IsChange change
    → (gate : ℕ) → length ((headed base ++ opened changes) ++ gate ∷ (record_of change ++ 0 ∷ [])) < 2 ^ 64
    → (holding_of (Some ((headed base ++ opened changes) ++ gate ∷ (record_of change ++ 0 ∷ []))) ≡ Stands
    (record { base = base; changes = changes }))
    ⊎ (holding_of (Some ((headed base ++ opened changes) ++ gate ∷ (record_of change ++ 0 ∷ []))) ≡ Stands
    (record { base = base; changes = changes ++ change ∷ [] }))
gate_holds base changes legal change is gate fits = elim (cases_eq gate 1) [
  | inl open_gate ↦
      let same : (headed base ++ opened changes) ++ gate ∷ (record_of change ++ 0 ∷ []) ≡ (headed base ++ opened (changes ++ change ∷ []))
      ++ 0 ∷ [] =
      ap (λ (g : ℕ). (headed base ++ opened changes) ++ g ∷ (record_of change ++ 0 ∷ [])) open_gate ∙ opened_is base changes legal change is
      (0 ∷ []) in
      inr (ap (λ (l : List ℕ). holding_of (Some l)) same ∙ closed_holds base (changes ++ change ∷ [])
      (more_legal base changes legal change is) 0 [] (omega arith) (omega (arith, fits, ap length same)))
  | inr closed ↦ inl (closed_holds base changes legal gate (record_of change ++ 0 ∷ []) closed fits)
]

-- ---- a disk that is settled

-- After a crash, a settled disk holds what it held.
pub settled_holds : (seen : Option File) (leaves : File → Type 0) (gate : ℕ) → IsSettled seen leaves gate
    → IsDurable (stored seen) (Leaves leaves)
settled_holds seen leaves gate h = grind arith

durable_before : (held : Option Stored) (change : Request) (leaves : Holding → Type 0) → IsDurable held leaves → (h : Holding) → leaves h
    → IsBeforeOrAfter held change h
durable_before held change leaves g h e = grind arith

-- What a crash before the first write leaves.
pub before_first : (seen : Option File) (leaves : File → Type 0) (gate : ℕ) (change : Request) → IsSettled seen leaves gate → (h : Holding)
    → Leaves leaves h → IsBeforeOrAfter (stored seen) change h
before_first seen leaves gate change s h left = durable_before (stored seen) change (Leaves leaves) (settled_holds seen leaves gate s) h
    left

pub closed_of : (bytes : List ℕ) (leaves : File → Type 0) (gate : ℕ) (s : IsSettled (Some (Some bytes)) leaves gate)
    → IsClosed (headed s.0.base ++ opened s.0.changes) gate (Some (Some bytes)) leaves
closed_of bytes leaves gate s =
    let is : bytes ≡ (headed s.0.base ++ opened s.0.changes) ++ 0 ∷ [] = s.0.spelled ∙ rest_is s.0.base s.0.changes s.0.legal in
    record { at = s.0.at; file = ap (λ (l : List ℕ). Some (Some l)) is; durable = λ c left. s.1 c left ∙ ap (λ (l : List ℕ). Some l) is }

-- ---- an append

module _ (change : Request) (written : List ℕ) (gate end : ℕ) (prepared : IsPrepared gate change written end) where
  module _ (bytes : List ℕ) (rest : IsAtRest gate bytes) where
    abbrev before : List ℕ
    before = headed rest.base ++ opened rest.changes

    abbrev held_before : LoggedStore
    held_before = record { base = rest.base; changes = rest.changes }

    holds : holding_of (Some bytes) ≡ Stands held_before
    holds = grind (arith, rest_is, closed_holds)

    grows : grown (holding_of (Some bytes)) change ≡ Stands (record { base = rest.base; changes = rest.changes ++ change ∷ [] })
    grows = ap (λ (h : Holding). grown h change) holds

    written_fits : (g : ℕ) → length (before ++ g ∷ written) < 2 ^ 64
    written_fits g = omega (arith, rest.at, prepared.end_is, prepared.within, length-append before (g ∷ written))

    -- What a crash during the append leaves: the changes of before, with or without the new one.
    pub left_holds : (c : File) → IsLeftOf before written c → (holding_of c ≡ holding_of (Some bytes))
        ⊎ (holding_of c ≡ grown (holding_of (Some bytes)) change)
    left_holds c (inl left) =
        let fits : length (before ++ 0 ∷ left.0) < 2 ^ 64 = omega (
          arith,
          rest.at,
          prepared.end_is,
          prepared.within,
          left.1,
          length-append
              before (0 ∷ left.0),
        ) in
        inl (ap holding_of left.2 ∙ closed_holds rest.base rest.changes rest.legal 0 left.0 (omega arith) fits ∙ sym holds)
    left_holds c (inr left) =
        let is : c ≡ Some (before ++ left.0 ∷ (record_of change ++ 0 ∷ [])) = left.1 ∙ ap (λ (l : List ℕ). Some (before ++ left.0 ∷ l))
        prepared.text in
        let fits : length (before ++ left.0 ∷ (record_of change ++ 0 ∷ [])) < 2 ^ 64 = subst
        (λ (l : List ℕ). length (before ++ left.0 ∷ l) < 2 ^ 64) prepared.text (written_fits left.0) in
        ⊎_elim (λ e. inl (ap holding_of is ∙ e ∙ sym holds)) (λ e. inr (ap holding_of is ∙ e ∙ sym grows))
        (gate_holds rest.base rest.changes rest.legal change prepared.legal left.0 fits)

    after_is : before ++ 1 ∷ written ≡ (headed rest.base ++ opened (rest.changes ++ change ∷ [])) ++ 0 ∷ []
    after_is = ap (λ (l : List ℕ). before ++ 1 ∷ l) prepared.text ∙ opened_is rest.base rest.changes rest.legal change prepared.legal
        (0 ∷ [])

    -- Once the gate is open, the file holds the new change.
    pub after_holds : holding_of (Some (before ++ 1 ∷ written)) ≡ grown (holding_of (Some bytes)) change
    after_holds =
        ap (λ (l : List ℕ). holding_of (Some l)) after_is
        ∙ closed_holds rest.base (rest.changes ++ change ∷ []) (more_legal rest.base rest.changes rest.legal change prepared.legal) 0 []
        (omega arith) (omega (arith, written_fits 1, ap length after_is))
        ∙ sym grows

    -- After that the file is a log at rest again.
    pub after_rests : IsAtRest end (before ++ 1 ∷ written)
    after_rests =
        let text_len : length written ≡ length (record_of change) + 1 = ap length prepared.text ∙ length-append (record_of change) (0 ∷ [])
        in
        let len : length (before ++ 1 ∷ written) ≡ gate + 1 + length written = omega (arith, rest.at, length-append before (1 ∷ written)) in
        record {
          base = rest.base;
          changes = rest.changes ++ change ∷ [];
          spelled = after_is ∙ sym (rest_is rest.base (rest.changes ++ change ∷ [])
              (more_legal rest.base rest.changes rest.legal change prepared.legal));
          at = omega (
            arith,
            len,
            ap length after_is,
            length-append (headed rest.base ++ opened (rest.changes ++ change ∷ [])) (0 ∷ []),
            prepared.end_is,
          );
          legal = more_legal rest.base rest.changes rest.legal change prepared.legal;
          fits = written_fits 1;
        }

-- ---- the clauses of the shelf

-- If appends are taken, the disk is settled.
pub settled_at : (seen : Option File) (leaves : File → Type 0) (place : Option ℕ) (gate : ℕ) → place ≡ Some gate
    → TakesAppends seen leaves place → IsSettled seen leaves gate
settled_at seen leaves place gate is s = subst (TakesAppends seen leaves) is s

module _ {D S : Type 0} (disk : S → D) (moment : D → ℕ) (left_since : D → ℕ → File → Type 0) where
  -- What a crash leaves of the disk, as what the shelf then holds.
  pub lifted : (old new : S) (P : File → Type 0) (Q : Holding → Type 0) → LeavesOnly moment left_since (disk old) (disk new) P
      → ((c : File) → P c → Q (holding_of c)) → LeavesOnly (λ s. moment (disk s)) (λ s t h. Leaves (left_since (disk s) t) h) old new Q
  lifted old new P Q h g = grind arith

  -- If the disk shows nothing, the clause says nothing.
  pub untold : (old new : S) (Q : Holding → Type 0) → moment (disk old) ≤ moment (disk new) → ((h : Holding) → Q h)
      → LeavesOnly (λ s. moment (disk s)) (λ s t h. Leaves (left_since (disk s) t) h) old new Q
  untold old new Q later all = record { later = later; each = λ h left. all h; before = λ t h le left. inr (all h) }

  -- What a crash leaves of an append, whether it succeeded or failed.
  pub append_leaves : (old new : S) (leaves : File → Type 0) (change : Request) (written : List ℕ) (gate end : ℕ) (seen : Option File)
      → IsPrepared gate change written end → IsSettled seen leaves gate → moment (disk old) ≤ moment (disk new)
      → ((front : List ℕ) → IsClosed front gate seen leaves → LeavesOnly moment left_since (disk old) (disk new) (IsLeftOf front written))
      → LeavesOnly (λ s. moment (disk s)) (λ s t h. Leaves (left_since (disk s) t) h) old new (IsBeforeOrAfter (stored seen) change)
  append_leaves old new leaves change written gate end None prepared s later run = untold old new (IsBeforeOrAfter None change) later
      (λ h. tt)
  append_leaves old new leaves change written gate end (Some None) prepared s later run = absurd s
  append_leaves old new leaves change written gate end (Some (Some bytes)) prepared s later run =
      lifted old new (IsLeftOf (headed s.0.base ++ opened s.0.changes) written) (IsBeforeOrAfter (stored (Some (Some bytes))) change)
      (run (headed s.0.base ++ opened s.0.changes) (closed_of bytes leaves gate s))
      (left_holds change written gate end prepared bytes s.0)

-- What the disk shows after a failed append.
pub append_fails : (seen now : Option File) (change : Request) (leaves left : File → Type 0) (gate end : ℕ) (written : List ℕ)
    → IsPrepared gate change written end → IsSettled seen leaves gate → is_some now ≡ is_some seen
    → ((c : File) → now ≡ Some c → left c) → ((front : List ℕ) → IsClosed front gate seen leaves → (c : File) → left c
    → IsLeftOf front written c) → HoldsOneOf (stored seen) (stored now) change
append_fails None None change leaves left gate end written prepared s some shows run = inl refl
append_fails None (Some c) change leaves left gate end written prepared s some shows run = absurd (true≢false some)
append_fails (Some None) now change leaves left gate end written prepared s some shows run = absurd s
append_fails (Some (Some bytes)) None change leaves left gate end written prepared s some shows run = absurd (true≢false (sym some))
append_fails (Some (Some bytes)) (Some c) change leaves left gate end written prepared s some shows run =
    let is = left_holds change written gate end prepared bytes s.0 c (run (headed s.0.base ++ opened s.0.changes)
    (closed_of bytes leaves gate s) c (shows c refl)) in
    ⊎_elim (λ e. inl (ap (λ (h : Holding). Some h) (told_of c ∙ e))) (λ e. inr (ap (λ (h : Holding). Some h) (told_of c ∙ e))) is
  where
    told_of : (c : File) → (stored_of c).holding ≡ holding_of c
    told_of None = refl
    told_of (Some bytes) = refl

-- What the disk shows after an append.
pub append_shows : (seen now : Option File) (change : Request) (leaves left : File → Type 0) (gate end : ℕ) (written : List ℕ)
    → IsPrepared gate change written end → IsSettled seen leaves gate → is_some now ≡ is_some seen → Settles now left
    → ((front : List ℕ) → IsClosed front gate seen leaves → now ≡ Some (Some (front ++ 1 ∷ written)))
    → HoldsGrown (stored seen) (stored now) change × IsSettled now left end
append_shows None None change leaves left gate end written prepared s some settles run = (refl, tt)
append_shows None (Some c) change leaves left gate end written prepared s some settles run = absurd (true≢false some)
append_shows (Some None) now change leaves left gate end written prepared s some settles run = absurd s
append_shows (Some (Some bytes)) now change leaves left gate end written prepared s some settles run =
    let is = run (headed s.0.base ++ opened s.0.changes) (closed_of bytes leaves gate s) in (
      ap (λ (o : Option File). told (stored o)) is ∙ ap (λ (h : Holding). Some h) (after_holds change written gate end prepared bytes s.0),
      subst (λ (o : Option File). IsSettled o left end) (sym is) (
        after_rests change written gate end prepared bytes s.0,
        subst
            (λ (o : Option File). Settles o left) is settles,
      ),
    )

-- ---- a fresh base

pub log_fresh : (base : List ℕ) → (magic ++ long (length base)) ++ (base ++ 0 ∷ []) ≡ log base []
log_fresh base = sym (append_assoc (head base) base (0 ∷ []))

pub fresh_holds : (base : List ℕ) → length base < 2 ^ 63 → holding_of (Some (log base [])) ≡ fresh base
fresh_holds base fits =
    let is = rest_is base [] tt in
    ap (λ (l : List ℕ). holding_of (Some l)) is ∙ closed_holds base [] tt 0 [] (omega arith) (fresh_fits base fits)
  where
    fresh_fits : (base : List ℕ) → length base < 2 ^ 63 → length ((headed base ++ opened []) ++ 0 ∷ []) < 2 ^ 64
    fresh_fits base fits = omega (
      arith,
      fits,
      length-append (headed base ++ opened []) (0 ∷ []),
      length-append (headed base) (opened []),
      length-append (head base) base,
      length-append magic (long (length base)),
    )

fresh_rests : (base : List ℕ) → length base < 2 ^ 63 → IsAtRest (16 + length base) (log base [])
fresh_rests base fits =
    let len : length (headed base ++ opened []) ≡ 16 + length base = omega (
      arith,
      length-append (headed base) (opened []),
      length-append
          (head base) base,
      length-append magic (long (length base)),
    ) in
    record {
      base = base;
      changes = [];
      spelled = refl;
      at = len;
      legal = tt;
      fits = omega (arith, fits, len, ap length (rest_is base [] tt), length-append (headed base ++ opened []) (0 ∷ []));
    }

-- What the disk shows after a swap.
pub swap_shows : (seen now : Option File) (left : File → Type 0) (file base : List ℕ) → file ≡ log base [] → length base < 2 ^ 63
    → ShowsNow seen now file → Only (Some file) left → HoldsFresh (stored seen) (stored now) base × IsSettled now left (16 + length base)
swap_shows None now left file base is fits shows only = (
  ap (λ (o : Option File). told (stored o)) shows,
  subst
      (λ (o : Option File). IsSettled o left (16 + length base)) (sym shows) tt,
)
swap_shows (Some f) now left file base is fits shows only = (
  ap (λ (o : Option File). told (stored o)) shows ∙ ap (λ (h : Holding). Some h)
      (ap (λ (l : List ℕ). holding_of (Some l)) is ∙ fresh_holds base fits),
  subst (λ (o : Option File). IsSettled o left (16 + length base)) (sym shows)
      (subst (IsAtRest (16 + length base)) (sym is) (fresh_rests base fits), only),
)

module _ {D S : Type 0} (disk : S → D) (moment : D → ℕ) (left_since : D → ℕ → File → Type 0) where
  -- What a crash leaves of a swap, whether it succeeded or failed.
  pub swap_leaves : (old new : S) (leaves left : File → Type 0) (file base : List ℕ) → file ≡ log base [] → length base < 2 ^ 63
      → ((c : File) → left_since (disk old) (moment (disk old)) c → leaves c)
      → Elapses (moment (disk old)) (moment (disk new)) (left_since (disk old)) (left_since (disk new)) (λ c. left c ⊎ (c ≡ Some file))
      → ((c : File) → left c → leaves c ⊎ (c ≡ Some file))
      → LeavesOnly (λ s. moment (disk s)) (λ s t h. Leaves (left_since (disk s) t) h) old new (λ h. Leaves leaves h ⊎ (h ≡ fresh base))
  swap_leaves old new leaves left file base h g e f p = grind (arith, goes_on, started, lifted, fresh_holds)

-- The file that was read is not too large.
pub read_small : (seen : Option File) (read : File) → IsRead seen read → file_length read ≤ most_file
read_small seen read h = grind arith

-- A load does not make the shelf take appends.
pub begins_none : (seen now : Option File) (leaves left : File → Type 0) (gate : Option ℕ) → IsSure seen leaves gate → now ≡ seen
    → TakesAppends now left gate → TakesAppends seen leaves gate
begins_none seen now leaves left None sure same takes = absurd takes
begins_none None now leaves left (Some place) sure same takes = tt
begins_none (Some None) now leaves left (Some place) sure same takes = absurd
    (subst (λ (o : Option File). IsSettled o left place) same takes)
begins_none (Some (Some bytes)) now leaves left (Some place) sure same takes =
    let settled : IsSettled (Some (Some bytes)) left place = subst (λ (o : Option File). IsSettled o left place) same takes in
    (settled.0, λ c here. sure place (Some bytes) c refl refl here)
