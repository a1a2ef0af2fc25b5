-- A recording without the lines that are about other places.
use Rattle.std.proofs.Common.{Bool, Err, List, None, Ok, Option, Result, Some, [], ap, cond, false, get_or, inl, inr, refl, subst}
use Rattle.std.proofs.Common.{sym, true, ℕ, ◌++◌, ◌∙◌, ◌∷◌, ◌≡◌, ◌≢◌, ◌⊎◌, ◌||◌}
use Rattle.std.proofs.lemmas.Bool.{true≢false}
use Rattle.std.proofs.lemmas.List.{append_assoc}
use Rattle.std.proofs.lemmas.List.Elements.{Contains-append_left, Contains-append_right, Contains-push, recursion_from_All}
use Rattle.std.proofs.lemmas.List.Elements.{All-append, All-cons, All-contains, All-nil, All-weaker}
use Rattle.std.proofs.lemmas.List.Folds.{list_any_at}
use Rattle.std.specs.List.{All, AllByRecursion, Contains, list_any}
use Rattle.std.specs.Prelude.{codes, is_none, is_some, not, ◌↔◌}
use Rattle.text_and_lists.specs.Reading.{check, need, ◌>>=◌}
use Rattle.soundness.specs.Claims.{Claim}
use Rattle.soundness.specs.Moments.{Explains, Moment, Same, Shown, Sound, Unchanged}
use Rattle.soundness.specs.declared.keeps.Keeps.{Keeps}
use Rattle.soundness.specs.declared.marker.Marker.TheVariants as markers
use Rattle.judging.proofs.Owned.{either}
use Rattle.judging.specs.Listed.{claim_of, has_attempt, owner, with_attempt, with_file}
use Rattle.path_keys.specs.Paths.{Path, below}
use Rattle.trace_reader.specs.declared.fault.TraceFault.{TraceFault}
use Rattle.trace_reader.specs.declared.fault.TraceFault.TheVariants.{NoSource, Repeated, SamePath}
use Rattle.trace_reader.specs.declared.line.TraceLine.{TraceLine}
use Rattle.trace_reader.specs.declared.line.TraceLine.TheVariants as line
use Rattle.audit_claims.specs.Claims.{Claimed, Tags, last_has}
use Rattle.audit_judge.proofs.Turn.{calm_may}
use Rattle.audit_model.specs.Moments.{claim, marker_if, moment, moment_if, opening, shown_of}
use Rattle.audit_model.specs.Recorded.{Recorded, after, begin, changed, is_marker, is_own, marker_key}
use Rattle.audit_objects.specs.Objects.{Objects, delete, put, same_place}
use Rattle.audit_laws.proofs.Alike.{back_alike, calm, may, sound}
use Rattle.audit_laws.proofs.Seen.{is_among, is_place, shown_same}
use Rattle.audit_laws.specs.Alike.{Alike, AllAlike}
use Rattle.audit_laws.specs.Split.{Agree, Covers, IsSplit, MayFollow, Opens, Places, SameAt, Split, Waits, after_all, behind, moments_of}
use Rattle.audit_laws.specs.Split.{touches, within}

-- ---- moments that are known

-- The moment needs no choice, or is alike to one of these.
abbrev Known : Shown Tags → List (Moment Tags) → Moment Tags → Type 0
Known o ms m = Unchanged o m ⊎ ((n : Moment Tags) × Contains ms n × Alike n m)

known_alike : (o : Shown Tags) (ms : List (Moment Tags)) (m n : Moment Tags) → Alike m n → Known o ms m → Known o ms n
known_alike o ms m n a (inl u) = inl (record { shows = λ q. sym (a.shown q) ∙ u.shows q; unmarked = λ e. u.unmarked (a.marker ∙ e) })
known_alike o ms m n a (inr k) = inr (
  k.0,
  k.1,
  record {
    begun = k.2.begun ∙ a.begun;
    marker = k.2.marker ∙ a.marker;
    shown = λ p. k.2.shown p ∙ a.shown p;
  },
)

known_more : (o : Shown Tags) (ms ns : List (Moment Tags)) (m : Moment Tags) → Known o ms m → Known o (ms ++ ns) m
known_more o ms ns m (inl u) = inl u
known_more o ms ns m (inr k) = inr (k.0, Contains-append_left ms ns k.0 k.1, k.2)

known_later : (o : Shown Tags) (ms ns : List (Moment Tags)) (m : Moment Tags) → Known o ns m → Known o (ms ++ ns) m
known_later o ms ns m (inl u) = inl u
known_later o ms ns m (inr k) = inr (k.0, Contains-append_right ms ns k.0 k.1, k.2)

all_self : (ms : List (Moment Tags)) → AllAlike ms ms
all_self [] = tt
all_self (m ∷ ms) = (record { begun = refl; marker = refl; shown = λ p. refl }, all_self ms)

-- A run stays sound with moments that are known.
known_sound : (w : Claim Tags) (o : Shown Tags) (ms ns : List (Moment Tags)) → All (Known o ms) ns → Sound w o ms → Sound w o ns
known_sound w o ms ns known (inl all) = inl (λ k d l. by (get_or ns k d) (known k d l))
  where
    by : (n : Moment Tags) → Known o ms n → Unchanged o n
    by n (inl u) = u
    by n (inr m) = calm w o o (λ p. refl) m.0 n m.2 (All-contains (Unchanged o) ms m.0 all m.1)
known_sound w o ms ns known (inr c) = inr (c.0, c.1, λ k d l. by (get_or ns k d) (known k d l))
  where
    by : (n : Moment Tags) → Known o ms n → Explains w o c.0 n
    by n (inl u) q = calm_may w o n u q _
    by n (inr m) q = may w o o (λ p. refl) m.0 n m.2 q _ (All-contains (Explains w o c.0) ms m.0 c.2 m.1 q)

-- ---- objects at some places

same_put : (places : Places) (a b : Objects) (bucket key : List ℕ) (tags : Tags) → SameAt places a b
    → SameAt places (put bucket key tags a) (put bucket key tags b)
same_put places a b bucket key tags h c l i = ap (λ x. cond (same_place bucket key c l) (Some tags) x) (h c l i)

same_delete : (places : Places) (a b : Objects) (bucket : List ℕ) (keys : List (List ℕ)) → SameAt places a b
    → SameAt places (delete bucket keys a) (delete bucket keys b)
same_delete places a b bucket keys h c l i = ap (λ x. cond (list_any (λ key. same_place bucket key c l) keys) None x) (h c l i)

put_outside : (places : Places) (a b : Objects) (bucket key : List ℕ) (tags : Tags) → places bucket key ≡ false → SameAt places a b
    → SameAt places (put bucket key tags a) b
put_outside places a b bucket key tags out h c l i = by (same_place bucket key c l) refl
  where
    by : (t : Bool) → same_place bucket key c l ≡ t → cond t (Some tags) (a c l) ≡ b c l
    by true e =
        let r = is_place bucket key c l e in
        absurd (true≢false (sym i ∙ ap (λ x. places x l) (sym r.0) ∙ ap (places bucket) (sym r.1) ∙ out))
    by false e = h c l i

delete_outside : (places : Places) (a b : Objects) (bucket : List ℕ) (keys : List (List ℕ)) → list_any (places bucket) keys ≡ false
    → SameAt places a b → SameAt places (delete bucket keys a) b
delete_outside places a b bucket keys out h c l i = by (list_any (λ key. same_place bucket key c l) keys) refl
  where
    by : (t : Bool) → list_any (λ key. same_place bucket key c l) keys ≡ t → cond t None (a c l) ≡ b c l
    by true e =
        let r = is_among bucket c l keys e in
        let there : places bucket l ≡ true = ap (λ x. places x l) r.0 ∙ i in
        absurd (true≢false (sym (list_any_at (places bucket) keys r.1.0 l r.1.1 (ap (places bucket) r.1.2 ∙ there)) ∙ out))
    by false e = h c l i

-- The marker's place is one of these places.
outside_marker : (places : Places) (dest : Path) → Covers dest places → (bucket key : List ℕ) → places bucket key ≡ false
    → is_marker dest bucket key ≡ false
outside_marker places dest covers bucket key out = elim (either (is_marker dest bucket key)) [
  | inl e ↦ let r = is_place dest.bucket (marker_key dest) bucket key e in
      absurd (true≢false (sym (covers (codes "_SUCCESS")) ∙ ap (λ x. places x (marker_key dest)) r.0 ∙ ap (places bucket) r.1 ∙ out))
  | inr e ↦ e
]

or_false : (a b : Bool) → b ≡ false → (a || b) ≡ a
or_false true b e = refl
or_false false b e = e

-- ---- recordings that agree

shown_agree : (places : Places) (d e : Path) (a b : Objects) → d ≡ e → Covers d places → SameAt places a b
    → Same (shown_of d a) (shown_of e b)
shown_agree places d e a b same covers h p = shown_same d b a p (λ v. h d.bucket (below d.key p) (covers p))
    ∙ ap (λ x. shown_of x b p) same

module _ (places : Places) where
  moments_agree : (r s : Recorded) → Covers r.dest places → Agree places r s → Alike (moment r) (moment s)
  moments_agree r s covers h = record {
    begun = h.begun;
    marker = ap (λ o. marker_if (is_some o) r.marked) (h.objects r.dest.bucket (marker_key r.dest) (covers (codes "_SUCCESS")))
        ∙ ap (λ d. marker_if (is_some (s.objects d.bucket (marker_key d))) r.marked) h.dest
        ∙ ap (marker_if (is_some (s.objects s.dest.bucket (marker_key s.dest)))) h.marked;
    shown = shown_agree places r.dest s.dest r.objects s.objects h.dest covers h.objects;
  }

  claims_agree : (r s : Recorded) → Agree places r s → claim r ≡ claim s
  claims_agree r s h = ap (λ k. claim_of k r.tasks r.claimed.listed) h.keeps ∙ ap (λ n. claim_of s.keeps n r.claimed.listed) h.tasks
      ∙ ap (λ (c : Claimed). claim_of s.keeps s.tasks c.listed) h.claimed

  -- ---- one line

  -- A line that is kept, applied to a recording that agrees.
  record Next (r now s : Recorded) (l : TraceLine) : Type 0 where
    next : Recorded
    made : after (Some s) l ≡ Ok next
    agree : Agree places now next
    -- It changes nothing, or a moment follows it.
    same : (now ≡ r) ⊎ (next.running ≡ true)
    runs : (s.running ≡ true → r.running ≡ true) → next.running ≡ true → now.running ≡ true
    -- The opening and the destination are unchanged.
    opening : now.opening ≡ r.opening
    dest : now.dest ≡ r.dest

  -- A recording after a line that is removed.
  record Passed (r now s : Recorded) : Type 0 where
    agree : Agree places now s
    runs : now.running ≡ true
    opening : now.opening ≡ r.opening
    dest : now.dest ≡ r.dest

  err_ok : {A : Type 0} (f : TraceFault) (x : A) → Err f ≡ Ok x → ⊥
  err_ok f x e = cc

  abbrev ok : Recorded → Result Recorded TraceFault
  ok x = Ok x

  ok_is : (x y : Recorded) → ok x ≡ ok y → x ≡ y
  ok_is x y e = cc e

  put_next : (r s : Recorded) (bucket key : List ℕ) (tags : Tags) (l : TraceLine) → Agree places r s
      → after (Some s) l ≡ Ok (changed (put bucket key tags s.objects) (is_marker s.dest bucket key) s)
      → Next r (changed (put bucket key tags r.objects) (is_marker r.dest bucket key) r) s l
  put_next r s bucket key tags l h made = record {
    next = changed (put bucket key tags s.objects) (is_marker s.dest bucket key) s;
    made = made;
    agree = record {
      dest = h.dest;
      keeps = h.keeps;
      tasks = h.tasks;
      claimed = h.claimed;
      begun = h.begun;
      marked = ap (λ b. b || is_marker r.dest bucket key) h.marked ∙ ap (λ d. s.marked || is_marker d bucket key) h.dest;
      opening = h.opening;
      objects = same_put places r.objects s.objects bucket key tags h.objects;
    };
    same = inr refl;
    runs = λ before e. refl;
    opening = refl;
    dest = refl;
  }

  put_passed : (r s : Recorded) (bucket key : List ℕ) (tags : Tags) → Covers r.dest places → Agree places r s → places bucket key ≡ false
      → Passed r (changed (put bucket key tags r.objects) (is_marker r.dest bucket key) r) s
  put_passed r s bucket key tags covers h out = record {
    agree = record {
      dest = h.dest;
      keeps = h.keeps;
      tasks = h.tasks;
      claimed = h.claimed;
      begun = h.begun;
      marked = or_false r.marked (is_marker r.dest bucket key) (outside_marker places r.dest covers bucket key out) ∙ h.marked;
      opening = h.opening;
      objects = put_outside places r.objects s.objects bucket key tags out h.objects;
    };
    runs = refl;
    opening = refl;
    dest = refl;
  }

  kept : (l : TraceLine) (r now s : Recorded) → MayFollow places l → Agree places r s → touches places l ≡ true
      → after (Some r) l ≡ Ok now → Next r now s l
  kept (line.Job dest keeps tasks) r now s may h t e = absurd may
  kept (line.Attempt task attempt) r now s may h t e = absurd may
  kept (line.File path tags) r now s may h t e = absurd may
  kept (line.Object bucket key tags) r now s may h t e = absurd may
  kept line.Commit r now s may h t e = by r.begun refl e
    where
      by : (b : Bool) → r.begun ≡ b → (check (not b) Repeated >>= λ x. Ok (record r { running = true; begun = true })) ≡ Ok now
          → Next r now s line.Commit
      by true g e = absurd (err_ok Repeated now e)
      by false g e = subst (λ n. Next r n s line.Commit) (ok_is (record r { running = true; begun = true }) now e) (record {
        next = record s { running = true; begun = true };
        made = ap (λ b. check (not b) Repeated >>= λ x. Ok (record s { running = true; begun = true })) (sym h.begun ∙ g);
        agree = record {
          dest = h.dest;
          keeps = h.keeps;
          tasks = h.tasks;
          claimed = h.claimed;
          begun = refl;
          marked = h.marked;
          opening = h.opening;
          objects = h.objects;
        };
        same = inr refl;
        runs = λ before e. refl;
        opening = refl;
        dest = refl;
      })
  kept (line.Put bucket key tags) r now s may h t e =
      subst (λ n. Next r n s (line.Put bucket key tags))
      (ok_is (changed (put bucket key tags r.objects) (is_marker r.dest bucket key) r) now e)
      (put_next r s bucket key tags (line.Put bucket key tags) h refl)
  kept (line.Copy bucket source key) r now s may h t e = by (r.objects bucket source) refl e
    where
      by : (o : Option Tags) → r.objects bucket source ≡ o
          → (need o NoSource >>= λ tags. Ok (changed (put bucket key tags r.objects) (is_marker r.dest bucket key) r)) ≡ Ok now
          → Next r now s (line.Copy bucket source key)
      by None g e = absurd (err_ok NoSource now e)
      by (Some tags) g e = subst (λ n. Next r n s (line.Copy bucket source key))
          (ok_is (changed (put bucket key tags r.objects) (is_marker r.dest bucket key) r) now e)
          (put_next r s bucket key tags (line.Copy bucket source key) h
          (ap (λ o. need o NoSource >>= λ x. Ok (changed (put bucket key x s.objects) (is_marker s.dest bucket key) s))
          (sym (h.objects bucket source (may t)) ∙ g)))
  kept (line.Delete bucket keys) r now s may h t e =
      subst (λ n. Next r n s (line.Delete bucket keys)) (ok_is (changed (delete bucket keys r.objects) false r) now e) (record {
        next = changed (delete bucket keys s.objects) false s;
        made = refl;
        agree = record {
          dest = h.dest;
          keeps = h.keeps;
          tasks = h.tasks;
          claimed = h.claimed;
          begun = h.begun;
          marked = ap (λ b. b || false) h.marked;
          opening = h.opening;
          objects = same_delete places r.objects s.objects bucket keys h.objects;
        };
        same = inr refl;
        runs = λ before e. refl;
        opening = refl;
        dest = refl;
      })
  kept line.Still r now s may h t e = subst (λ n. Next r n s line.Still) (ok_is r now e) (record {
    next = s;
    made = refl;
    agree = h;
    same = inl refl;
    runs = λ before e. before e;
    opening = refl;
    dest = refl;
  })

  passed : (l : TraceLine) (r now s : Recorded) → MayFollow places l → Covers r.dest places → Agree places r s → touches places l ≡ false
      → after (Some r) l ≡ Ok now → Passed r now s
  passed (line.Put bucket key tags) r now s may covers h t e =
      subst (λ n. Passed r n s) (ok_is (changed (put bucket key tags r.objects) (is_marker r.dest bucket key) r) now e)
      (put_passed r s bucket key tags covers h t)
  passed (line.Copy bucket source key) r now s may covers h t e = by (r.objects bucket source) e
    where
      by : (o : Option Tags)
          → (need o NoSource >>= λ tags. Ok (changed (put bucket key tags r.objects) (is_marker r.dest bucket key) r)) ≡ Ok now
          → Passed r now s
      by None e = absurd (err_ok NoSource now e)
      by (Some tags) e = subst (λ n. Passed r n s) (ok_is (changed (put bucket key tags r.objects) (is_marker r.dest bucket key) r) now e)
          (put_passed r s bucket key tags covers h t)
  passed (line.Delete bucket keys) r now s may covers h t e =
      subst (λ n. Passed r n s) (ok_is (changed (delete bucket keys r.objects) false r) now e) (record {
        agree = record {
          dest = h.dest;
          keeps = h.keeps;
          tasks = h.tasks;
          claimed = h.claimed;
          begun = h.begun;
          marked = or_false r.marked false refl ∙ h.marked;
          opening = h.opening;
          objects = delete_outside places r.objects s.objects bucket keys t h.objects;
        };
        runs = refl;
        opening = refl;
        dest = refl;
      })
  passed (line.Job dest keeps tasks) r now s may covers h t e = absurd (true≢false t)
  passed (line.Attempt task attempt) r now s may covers h t e = absurd (true≢false t)
  passed (line.File path tags) r now s may covers h t e = absurd (true≢false t)
  passed (line.Object bucket key tags) r now s may covers h t e = absurd may
  passed line.Commit r now s may covers h t e = absurd (true≢false t)
  passed line.Still r now s may covers h t e = absurd (true≢false t)

  -- ---- all lines

  -- The lines that are kept, applied to a recording that agrees, and the moments that are known of both.
  record Walk (o : Shown Tags) (prior ms ns : List (Moment Tags)) (made : Result Recorded TraceFault) (end r : Recorded) : Type 0 where
    last : Recorded
    said : made ≡ Ok last
    agree : Agree places end last
    on : All (Known o (prior ++ ns)) ms
    back : All (Known o ms) ns
    opening : end.opening ≡ r.opening
    dest : end.dest ≡ r.dest

  if_running : (r : Recorded) (P : Moment Tags → Type 0) → (r.running ≡ true → P (moment r)) → All P (moment_if r)
  if_running r P h = by r.running h
    where
      by : (b : Bool) → (b ≡ true → P (moment r)) → All P (cond b (moment r ∷ []) [])
      by true h = All-cons P (moment r) [] (h refl) (All-nil P)
      by false h = All-nil P

  in_if : (r : Recorded) → r.running ≡ true → Contains (moment_if r) (moment r)
  in_if r e = subst (λ b. Contains (cond b (moment r ∷ []) []) (moment r)) (sym e) (Contains-push [] (moment r))

  kept_walk : (o : Shown Tags) (prior ms ns : List (Moment Tags)) (made : Result Recorded TraceFault) (end r now next : Recorded)
      → Alike (moment now) (moment next) → (next.running ≡ true → now.running ≡ true)
      → Known o (prior ++ moment_if next) (moment now) → now.opening ≡ r.opening → now.dest ≡ r.dest
      → Walk o (prior ++ moment_if next) ms ns made end now
      → Walk o prior (moment_if now ++ ms) (moment_if next ++ ns) made end r
  kept_walk o prior ms ns made end r now next alike runs known opening dest w = record {
    last = w.last;
    said = w.said;
    agree = w.agree;
    on = subst (λ all. All (Known o all) (moment_if now ++ ms)) (append_assoc prior (moment_if next) ns)
        (All-append (Known o ((prior ++ moment_if next) ++ ns)) (moment_if now) ms
        (if_running now (Known o ((prior ++ moment_if next) ++ ns))
        (λ e. known_more o (prior ++ moment_if next) ns (moment now) known)) w.on);
    back = All-append (Known o (moment_if now ++ ms)) (moment_if next) ns
        (if_running next (Known o (moment_if now ++ ms))
        (λ e. known_more o (moment_if now) ms (moment next) (inr (moment now, in_if now (runs e), alike))))
        (All-weaker (Known o ms) (Known o (moment_if now ++ ms)) (λ m. known_later o (moment_if now) ms m) ns w.back);
    opening = w.opening ∙ opening;
    dest = w.dest ∙ dest;
  }

  passed_walk : (o : Shown Tags) (prior ms ns : List (Moment Tags)) (made : Result Recorded TraceFault) (end r now : Recorded)
      → Known o prior (moment now) → now.opening ≡ r.opening → now.dest ≡ r.dest → Walk o prior ms ns made end now
      → Walk o prior (moment_if now ++ ms) ns made end r
  passed_walk o prior ms ns made end r now known opening dest w = record {
    last = w.last;
    said = w.said;
    agree = w.agree;
    on = All-append (Known o (prior ++ ns)) (moment_if now) ms
        (if_running now (Known o (prior ++ ns)) (λ e. known_more o prior ns (moment now) known)) w.on;
    back = All-weaker (Known o ms) (Known o (moment_if now ++ ms)) (λ m. known_later o (moment_if now) ms m) ns w.back;
    opening = w.opening ∙ opening;
    dest = w.dest ∙ dest;
  }

  -- The moment after a line that is kept is known.
  known_next : (o : Shown Tags) (prior : List (Moment Tags)) (r now next : Recorded) → Known o prior (moment r)
      → Alike (moment now) (moment next) → (now ≡ r) ⊎ (next.running ≡ true) → Known o (prior ++ moment_if next) (moment now)
  known_next o prior r now next known alike (inl e) =
      known_more o prior (moment_if next) (moment now) (subst (λ x. Known o prior (moment x)) (sym e) known)
  known_next o prior r now next known alike (inr e) = inr (
    moment next,
    Contains-append_right prior (moment_if next) (moment next) (in_if next e),
    back_alike (moment now) (moment next) alike,
  )

  covers_as : (d e : Path) → d ≡ e → Covers e places → Covers d places
  covers_as d e p covers = subst (λ x. Covers x places) (sym p) covers

  walk : (o : Shown Tags) (prior : List (Moment Tags)) (lines : List TraceLine) (r end s : Recorded) → Covers r.dest places
      → Agree places r s → (s.running ≡ true → r.running ≡ true) → Known o prior (moment r) → AllByRecursion (MayFollow places) lines
      → after_all lines r ≡ Ok end
      → Walk o prior (moments_of lines r) (moments_of (within places lines) s) (after_all (within places lines) s) end r
  walk o prior [] r end s covers h runs known may e = record {
    last = s;
    said = refl;
    agree = subst (λ x. Agree places x s) (ok_is r end e) h;
    on = All-nil (Known o (prior ++ []));
    back = All-nil (Known o []);
    opening = ap (λ (x : Recorded). x.opening) (sym (ok_is r end e));
    dest = ap (λ (x : Recorded). x.dest) (sym (ok_is r end e));
  }
  walk o prior (l ∷ ls) r end s covers h runs known may e =
      by (after (Some r) l) refl e (touches places l) refl (λ prior now next c a u k g. walk o prior ls now end next c a u k may.1 g)
    where
      by : (x : Result Recorded TraceFault) → after (Some r) l ≡ x → (x >>= after_all ls) ≡ Ok end → (b : Bool) → touches places l ≡ b
          → ((prior : List (Moment Tags)) (now next : Recorded) → Covers now.dest places → Agree places now next
          → (next.running ≡ true → now.running ≡ true) → Known o prior (moment now) → after_all ls now ≡ Ok end
          → Walk o prior (moments_of ls now) (moments_of (within places ls) next) (after_all (within places ls) next) end now)
          → Walk o prior (behind x (moments_of ls)) (moments_of (cond b (l ∷ within places ls) (within places ls)) s)
          (after_all (cond b (l ∷ within places ls) (within places ls)) s) end r
      by (Err f) g e b t rest = absurd (err_ok f end e)
      by (Ok now) g e true t rest =
          let n = kept l r now s may.0 h t g in
          let c = covers_as now.dest r.dest n.dest covers in
          let alike = moments_agree now n.next c n.agree in
          let k = known_next o prior r now n.next known alike n.same in
          subst (λ x. Walk o prior (moment_if now ++ moments_of ls now) (behind x (moments_of (within places ls)))
          (x >>= after_all (within places ls)) end r) (sym n.made)
          (kept_walk o prior (moments_of ls now) (moments_of (within places ls) n.next) (after_all (within places ls) n.next)
          end r now n.next alike (n.runs runs) k n.opening n.dest (rest (prior ++ moment_if n.next) now n.next c n.agree (n.runs runs) k e))
      by (Ok now) g e false t rest =
          let n = passed l r now s may.0 covers h t g in
          let c = covers_as now.dest r.dest n.dest covers in
          let k = known_alike o prior (moment s) (moment now) (back_alike (moment now) (moment s) (moments_agree now s c n.agree))
          (known_alike o prior (moment r) (moment s) (moments_agree r s covers h) known) in
          passed_walk o prior (moments_of ls now) (moments_of (within places ls) s) (after_all (within places ls) s) end r now
          k n.opening n.dest (rest prior now s c n.agree (λ u. n.runs) k e)

  -- ---- the whole run

  unmarked_if : (exists marked : Bool) → marked ≡ false → marker_if exists marked ≢ markers.New
  unmarked_if true true e h = true≢false e
  unmarked_if true false e h = cc h
  unmarked_if false marked e h = cc h

  waits_known : (r : Recorded) → Covers r.dest places → Waits r → Known (opening r) [] (moment r)
  waits_known r covers h = inl (record {
    shows = shown_agree places r.dest r.dest r.objects r.opening refl covers (λ b k i. h.objects b k);
    unmarked = unmarked_if (is_some (r.objects r.dest.bucket (marker_key r.dest))) r.marked h.marked;
  })

changes_split : (places : Places) (lines : List TraceLine) (r s end : Recorded) → Covers r.dest places → Agree places r s → Waits r
    → Waits s → All (MayFollow places) lines → after_all lines r ≡ Ok end → IsSplit places lines r s end
changes_split places lines r s end covers h waits others may e = record {
  last = w.last;
  said = w.said;
  agree = w.agree;
  safe = (on, back);
}
  where
    w : Walk places (opening r) [] (moments_of lines r) (moments_of (within places lines) s) (after_all (within places lines) s) end r
    w = walk places (opening r) [] lines r end s covers h (λ u. absurd (true≢false (sym u ∙ others.running)))
        (waits_known places r covers waits) (recursion_from_All (MayFollow places) lines may) e

    -- What readers saw when the run began.
    opened : opening end ≡ opening r
    opened = ap (λ d. shown_of d end.opening) w.dest ∙ ap (shown_of r.dest) w.opening

    same : Same (opening end) (opening w.last)
    same = shown_agree places end.dest w.last.dest end.opening w.last.opening w.agree.dest
        (covers_as places end.dest r.dest w.dest covers) w.agree.opening

    on : Sound (claim end) (opening end) (moments_of lines r) → Sound (claim w.last) (opening w.last) (moments_of (within places lines) s)
    on sound_all =
        let ns = moments_of (within places lines) s in
        let known = known_sound (claim end) (opening r) (moments_of lines r) ns w.back
        (subst (λ x. Sound (claim end) x (moments_of lines r)) opened sound_all) in
        subst (λ c. Sound c (opening w.last) ns) (claims_agree places end w.last w.agree)
        (sound (claim end) (opening end) (opening w.last) same ns ns (all_self ns)
        (subst (λ x. Sound (claim end) x ns) (sym opened) known))

    back : Sound (claim w.last) (opening w.last) (moments_of (within places lines) s) → Sound (claim end) (opening end) (moments_of lines r)
    back sound_part =
        let ns = moments_of (within places lines) s in
        let part = sound (claim end) (opening w.last) (opening end) (λ p. sym (same p)) ns ns (all_self ns)
        (subst (λ c. Sound c (opening w.last) ns) (sym (claims_agree places end w.last w.agree)) sound_part) in
        subst (λ x. Sound (claim end) x (moments_of lines r)) (sym opened)
        (known_sound (claim end) (opening r) ns (moments_of lines r) w.on (subst (λ x. Sound (claim end) x ns) opened part))

-- ---- before the run begins

module _ (places : Places) where
  -- A line of the opening part that is kept, applied to a recording that agrees.
  record Opened (r now s : Recorded) (l : TraceLine) : Type 0 where
    next : Recorded
    made : after (Some s) l ≡ Ok next
    agree : Agree places now next
    waits : Waits now
    waits_next : Waits next
    dest : now.dest ≡ r.dest

  -- A recording after a line of the opening part that is removed.
  record Left (r now s : Recorded) : Type 0 where
    agree : Agree places now s
    waits : Waits now
    dest : now.dest ≡ r.dest

  -- A recording with another claim.
  abbrev claims : Claimed → Recorded → Recorded
  claims c r = record r { claimed = c }

  claimed_opened : (r s : Recorded) (c d : Claimed) (l : TraceLine) → Agree places r s → Waits r → Waits s → c ≡ d
      → after (Some s) l ≡ Ok (claims d s) → Opened r (claims c r) s l
  claimed_opened r s c d l h waits others same made = record {
    next = claims d s;
    made = made;
    agree = record {
      dest = h.dest;
      keeps = h.keeps;
      tasks = h.tasks;
      claimed = same;
      begun = h.begun;
      marked = h.marked;
      opening = h.opening;
      objects = h.objects;
    };
    waits = record { running = waits.running; marked = waits.marked; objects = waits.objects };
    waits_next = record { running = others.running; marked = others.marked; objects = others.objects };
    dest = refl;
  }

  -- A recording with one more object of the opening.
  abbrev holds : (bucket key : List ℕ) → Tags → Recorded → Recorded
  holds bucket key tags r = record r { opening = put bucket key tags r.opening; objects = put bucket key tags r.objects }

  holds_waits : (bucket key : List ℕ) (tags : Tags) (r : Recorded) → Waits r → Waits (holds bucket key tags r)
  holds_waits bucket key tags r h = record {
    running = h.running;
    marked = h.marked;
    objects = λ b k. ap (λ o. cond (same_place bucket key b k) (Some tags) o) (h.objects b k);
  }

  opened : (l : TraceLine) (r now s : Recorded) → Opens l → Agree places r s → Waits r → Waits s → touches places l ≡ true
      → after (Some r) l ≡ Ok now → Opened r now s l
  opened (line.Job dest keeps tasks) r now s may h waits others t e = absurd may
  opened (line.Attempt task attempt) r now s may h waits others t e =
      by (not (has_attempt task attempt r.claimed.listed)) refl e
    where
      make : Claimed → Claimed
      make c = record { listed = with_attempt task attempt c.listed; current = task }

      by : (b : Bool) → not (has_attempt task attempt r.claimed.listed) ≡ b
          → (check b Repeated >>= λ x. Ok (claims (make r.claimed) r)) ≡ Ok now → Opened r now s (line.Attempt task attempt)
      by false g e = absurd (err_ok places Repeated now e)
      by true g e = subst (λ n. Opened r n s (line.Attempt task attempt)) (ok_is places (claims (make r.claimed) r) now e)
          (claimed_opened r s (make r.claimed) (make s.claimed) (line.Attempt task attempt) h waits others (ap make h.claimed)
          (ap (λ b. check b Repeated >>= λ x. Ok (claims (make s.claimed) s))
          (ap (λ (c : Claimed). not (has_attempt task attempt c.listed)) (sym h.claimed) ∙ g)))
  opened (line.File path tags) r now s may h waits others t e =
      by (not (last_has r.claimed path)) (is_own r.claimed.current (owner path r.claimed.listed)) refl refl e
    where
      make : Claimed → Claimed
      make c = record c { listed = with_file c.current path tags c.listed }

      by : (a b : Bool) → not (last_has r.claimed path) ≡ a → is_own r.claimed.current (owner path r.claimed.listed) ≡ b
          → (check a Repeated >>= λ x. check b SamePath >>= λ y. Ok (claims (make r.claimed) r)) ≡ Ok now
          → Opened r now s (line.File path tags)
      by false b f g e = absurd (err_ok places Repeated now e)
      by true false f g e = absurd (err_ok places SamePath now e)
      by true true f g e = subst (λ n. Opened r n s (line.File path tags)) (ok_is places (claims (make r.claimed) r) now e)
          (claimed_opened r s (make r.claimed) (make s.claimed) (line.File path tags) h waits others (ap make h.claimed)
          (ap (λ a. check a Repeated >>= λ x. check (is_own s.claimed.current (owner path s.claimed.listed)) SamePath
          >>= λ y. Ok (claims (make s.claimed) s)) (ap (λ (c : Claimed). not (last_has c path)) (sym h.claimed) ∙ f)
          ∙ ap (λ b. check b SamePath >>= λ y. Ok (claims (make s.claimed) s))
          (ap (λ (c : Claimed). is_own c.current (owner path c.listed)) (sym h.claimed) ∙ g)))
  opened (line.Object bucket key tags) r now s may h waits others t e = by (is_none (r.objects bucket key)) refl e
    where
      by : (b : Bool) → is_none (r.objects bucket key) ≡ b → (check b Repeated >>= λ x. Ok (holds bucket key tags r)) ≡ Ok now
          → Opened r now s (line.Object bucket key tags)
      by false g e = absurd (err_ok places Repeated now e)
      by true g e = subst (λ n. Opened r n s (line.Object bucket key tags)) (ok_is places (holds bucket key tags r) now e) (record {
        next = holds bucket key tags s;
        made = ap (λ b. check b Repeated >>= λ x. Ok (holds bucket key tags s)) (ap is_none (sym (h.objects bucket key t)) ∙ g);
        agree = record {
          dest = h.dest;
          keeps = h.keeps;
          tasks = h.tasks;
          claimed = h.claimed;
          begun = h.begun;
          marked = h.marked;
          opening = same_put places r.opening s.opening bucket key tags h.opening;
          objects = same_put places r.objects s.objects bucket key tags h.objects;
        };
        waits = holds_waits bucket key tags r waits;
        waits_next = holds_waits bucket key tags s others;
        dest = refl;
      })
  opened line.Commit r now s may h waits others t e = absurd may
  opened (line.Put bucket key tags) r now s may h waits others t e = absurd may
  opened (line.Copy bucket source key) r now s may h waits others t e = absurd may
  opened (line.Delete bucket keys) r now s may h waits others t e = absurd may
  opened line.Still r now s may h waits others t e = subst (λ n. Opened r n s line.Still) (ok_is places r now e)
      (record { next = s; made = refl; agree = h; waits = waits; waits_next = others; dest = refl })

  left : (l : TraceLine) (r now s : Recorded) → Opens l → Agree places r s → Waits r → touches places l ≡ false
      → after (Some r) l ≡ Ok now → Left r now s
  left (line.Object bucket key tags) r now s may h waits t e = by (is_none (r.objects bucket key)) e
    where
      by : (b : Bool) → (check b Repeated >>= λ x. Ok (holds bucket key tags r)) ≡ Ok now → Left r now s
      by false e = absurd (err_ok places Repeated now e)
      by true e = subst (λ n. Left r n s) (ok_is places (holds bucket key tags r) now e) (record {
        agree = record {
          dest = h.dest;
          keeps = h.keeps;
          tasks = h.tasks;
          claimed = h.claimed;
          begun = h.begun;
          marked = h.marked;
          opening = put_outside places r.opening s.opening bucket key tags t h.opening;
          objects = put_outside places r.objects s.objects bucket key tags t h.objects;
        };
        waits = holds_waits bucket key tags r waits;
        dest = refl;
      })
  left (line.Job dest keeps tasks) r now s may h waits t e = absurd may
  left (line.Attempt task attempt) r now s may h waits t e = absurd (true≢false t)
  left (line.File path tags) r now s may h waits t e = absurd (true≢false t)
  left line.Commit r now s may h waits t e = absurd may
  left (line.Put bucket key tags) r now s may h waits t e = absurd may
  left (line.Copy bucket source key) r now s may h waits t e = absurd may
  left (line.Delete bucket keys) r now s may h waits t e = absurd may
  left line.Still r now s may h waits t e = absurd (true≢false t)

  -- The run is sound for one list of moments exactly if it is sound for the other, by the lines that are kept.
  record Told (ms ns : List (Moment Tags)) (made : Result Recorded TraceFault) (end : Recorded) : Type 0 where
    last : Recorded
    said : made ≡ Ok last
    agree : Agree places end last
    safe : Sound (claim end) (opening end) ms ↔ Sound (claim last) (opening last) ns

  -- No moment follows a line before the run begins.
  no_moment : (r : Recorded) (ms : List (Moment Tags)) → r.running ≡ false → ms ≡ moment_if r ++ ms
  no_moment r ms e = ap (λ b. cond b (moment r ∷ []) [] ++ ms) (sym e)

  told : (first rest : List TraceLine) (r s end : Recorded) → Covers r.dest places → Agree places r s → Waits r → Waits s
      → AllByRecursion Opens first → All (MayFollow places) rest → after_all (first ++ rest) r ≡ Ok end
      → Told (moments_of (first ++ rest) r) (moments_of (within places (first ++ rest)) s) (after_all (within places (first ++ rest)) s) end
  told [] rest r s end covers h waits others opens may e =
      let w = changes_split places rest r s end covers h waits others may e in
      record { last = w.last; said = w.said; agree = w.agree; safe = w.safe }
  told (l ∷ first) rest r s end covers h waits others opens may e =
      by (after (Some r) l) refl e (touches places l) refl (λ now next c a u v g. told first rest now next end c a u v opens.1 may g)
    where
      by : (x : Result Recorded TraceFault) → after (Some r) l ≡ x → (x >>= after_all (first ++ rest)) ≡ Ok end → (b : Bool)
          → touches places l ≡ b
          → ((now next : Recorded) → Covers now.dest places → Agree places now next → Waits now → Waits next
          → after_all (first ++ rest) now ≡ Ok end → Told (moments_of (first ++ rest) now)
          (moments_of (within places (first ++ rest)) next) (after_all (within places (first ++ rest)) next) end)
          → Told (behind x (moments_of (first ++ rest)))
          (moments_of (cond b (l ∷ within places (first ++ rest)) (within places (first ++ rest))) s)
          (after_all (cond b (l ∷ within places (first ++ rest)) (within places (first ++ rest))) s) end
      by (Err f) g e b t again = absurd (err_ok places f end e)
      by (Ok now) g e true t again =
          let n = opened l r now s opens.0 h waits others t g in
          let made = after_all (within places (first ++ rest)) n.next in
          let ms = moments_of (first ++ rest) now in
          let ns = moments_of (within places (first ++ rest)) n.next in
          let w = again now n.next (covers_as places now.dest r.dest n.dest covers) n.agree n.waits n.waits_next e in
          subst (λ x. Told (moment_if now ++ ms) (behind x (moments_of (within places (first ++ rest))))
          (x >>= after_all (within places (first ++ rest))) end) (sym n.made)
          (subst (λ x. Told x (moment_if n.next ++ ns) made end) (no_moment now ms n.waits.running)
          (subst (λ x. Told ms x made end) (no_moment n.next ns n.waits_next.running) w))
      by (Ok now) g e false t again =
          let n = left l r now s opens.0 h waits t g in
          let ms = moments_of (first ++ rest) now in
          let w = again now s (covers_as places now.dest r.dest n.dest covers) n.agree n.waits others e in
          subst (λ x. Told x (moments_of (within places (first ++ rest)) s) (after_all (within places (first ++ rest)) s) end)
          (no_moment now ms n.waits.running) w

behind_others : (places : Places) (first rest : List TraceLine) (r s end : Recorded) → Covers r.dest places → Agree places r s
    → Waits r → Waits s → All Opens first → All (MayFollow places) rest → after_all (first ++ rest) r ≡ Ok end
    → IsSplit places (first ++ rest) r s end
behind_others places first rest r s end covers h waits others opens may e =
    let w = told places first rest r s end covers h waits others (recursion_from_All Opens first opens) may e in
    record { last = w.last; said = w.said; agree = w.agree; safe = w.safe }

agree_self : (places : Places) (r : Recorded) → Agree places r r
agree_self places r = record {
  dest = refl;
  keeps = refl;
  tasks = refl;
  claimed = refl;
  begun = refl;
  marked = refl;
  opening = λ b k i. refl;
  objects = λ b k i. refl;
}

begin_waits : (dest : Path) (keeps : Keeps) (tasks : ℕ) → Waits (begin dest keeps tasks)
begin_waits dest keeps tasks = record { running = refl; marked = refl; objects = λ b k. refl }

pub split : Split
split = record {
  behind_others = behind_others;
  of_job = λ places first rest dest keeps tasks end covers opens may e.
      let r = begin dest keeps tasks in
      behind_others places first rest r r end covers (agree_self places r) (begin_waits dest keeps tasks) (begin_waits dest keeps tasks)
      opens may e;
}
