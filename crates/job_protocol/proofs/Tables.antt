-- The table of lanes at the start, and after each outcome.
use Rattle.job_protocol.proofs.Members.{in_append, in_left, in_push, in_right}
use Rattle.job_protocol.specs.LaneTable.{After, Apart, In, Table, ahead}
use Rattle.job_protocol.specs.Lanes.{Turn, again, dealt, first_turns, follow, fresh_turn}
use Rattle.std.proofs.Common.{Bool, List, ap, append-nil, arith, false, inl, inr, min, nat_lt, refl, subst, suc, sym, true, zero, ℕ, []}
use Rattle.std.proofs.Common.{◌++◌, ◌+◌, ◌-◌, ◌<◌, ◌∙◌, ◌∷◌, ◌≡◌, ◌≤◌, ◌⊎◌}
use Rattle.std.proofs.lemmas.Bool.{cases_lt}
use Rattle.std.proofs.lemmas.Bool.Decides.{nat_tests}

pub lt_or_not : (a b : ℕ) → ((nat_lt a b ≡ true) × (a < b)) ⊎ ((nat_lt a b ≡ false) × (b ≤ a))
lt_or_not a b = grind (arith, nat_tests)

-- ---- lanes

ahead_next : (lanes a k : ℕ) → ahead lanes (a + lanes) k ≡ ahead lanes a k + lanes
ahead_next lanes a zero = refl
ahead_next lanes a (suc k) = ap (λ n. n + lanes) (ahead_next lanes a k)

ahead_far : (lanes a k : ℕ) → a ≤ ahead lanes a k
ahead_far lanes a zero = omega arith
ahead_far lanes a (suc k) = let i : a ≤ ahead lanes a k = ahead_far lanes a k in omega arith

pub after_self : (lanes a : ℕ) → After lanes a a
after_self lanes a = (0, refl)

pub after_next : (lanes a n : ℕ) → After lanes (a + lanes) n → After lanes a n
after_next lanes a n h = (suc h.0, sym (ahead_next lanes a h.0) ∙ h.1)

-- An upload at or after a turn is the turn's own, or is at or after the lane's next one.
after_cases : (lanes a n : ℕ) → After lanes a n → (a ≡ n) ⊎ After lanes (a + lanes) n
after_cases lanes a n h = by h.0 h.1
  where
    by : (k : ℕ) → ahead lanes a k ≡ n → (a ≡ n) ⊎ After lanes (a + lanes) n
    by zero e = inl e
    by (suc k) e = inr (k, ahead_next lanes a k ∙ e)

pub after_low : (lanes a n : ℕ) → After lanes a n → a ≤ n
after_low lanes a n h = let i : a ≤ ahead lanes a h.0 = ahead_far lanes a h.0 in let e : ahead lanes a h.0 ≡ n = h.1 in omega arith

-- Two lanes have no upload in common.
meet : (lanes a b k l : ℕ) → a < lanes → b < lanes → ahead lanes a k ≡ ahead lanes b l → a ≡ b
meet lanes a b zero zero low high e = e
meet lanes a b zero (suc l) low high e = let i : b ≤ ahead lanes b l = ahead_far lanes b l in absurd (omega arith)
meet lanes a b (suc k) zero low high e = let i : a ≤ ahead lanes a k = ahead_far lanes a k in absurd (omega arith)
meet lanes a b (suc k) (suc l) low high e = meet lanes a b k l low high (omega arith)

-- Each upload is in some lane.
lane_of : (lanes n top : ℕ) → n < top → 0 < lanes → (a : ℕ) × (a < lanes) × (a ≤ n) × After lanes a n
lane_of lanes n zero h some = absurd (omega arith)
lane_of lanes n (suc top) h some = elim (cases_lt n lanes) [
  | inl low ↦ (n, low, omega arith, after_self lanes n)
  | inr high ↦
      let r = lane_of lanes (n - lanes) top (omega arith) some in
      let low : r.0 ≤ n - lanes = r.2 in
      let e : ahead lanes r.0 r.3.0 ≡ n - lanes = r.3.1 in
      let f : ahead lanes r.0 r.3.0 + lanes ≡ n = omega arith in
      (r.0, r.1, omega arith, (suc r.3.0, f))
]

-- ---- the table at the start

pub in_first : (m : ℕ) (x : Turn) → In x (first_turns m) → (x.number < m) × (x.missed ≡ 0) × (x.lost ≡ false)
in_first zero x h = absurd h
in_first (suc m) x h = elim (in_push x (first_turns m) (fresh_turn m) h) [
  | inl i ↦ let r = in_first m x i in let b : x.number < m = r.0 in (omega arith, r.1, r.2)
  | inr e ↦ let n : m ≡ x.number = ap (λ (v : Turn). v.number) e in (
    omega arith,
    sym (ap (λ (v : Turn). v.missed) e),
    sym
        (ap (λ (v : Turn). v.lost) e),
  )
]

first_in : (m a : ℕ) → a < m → In (fresh_turn a) (first_turns m)
first_in zero a h = absurd (omega arith)
first_in (suc m) a h = elim (cases_lt a m) [
  | inl low ↦ in_left (fresh_turn a) (first_turns m) (fresh_turn m ∷ []) (first_in m a low)
  | inr high ↦ let e : m ≡ a = omega arith in in_right (fresh_turn a) (first_turns m) (fresh_turn m ∷ []) (inl (ap fresh_turn e))
]

-- One more turn keeps the turns apart, if no upload is at or after both it and another one.
pub apart_push : (lanes : ℕ) (xs : List Turn) (y : Turn) → Apart lanes xs
    → ((x : Turn) (n : ℕ) → In x xs → After lanes x.number n → After lanes y.number n → ⊥) → Apart lanes (xs ++ y ∷ [])
apart_push lanes [] y ok new = (λ x n i a b. i, tt)
apart_push lanes (x ∷ xs) y ok new = (
  λ z n i a b. elim (in_push z xs y i) [
    | inl j ↦ ok.0 z n j a b
    | inr e ↦ let Q : Turn
        → Type 0 = λ v. After lanes v.number n in new x n (inl refl) a (subst Q (sym e) b)
  ],
  apart_push lanes xs y ok.1 (λ z n i a b. new z n (inr i) a b),
)

apart_first : (lanes m : ℕ) → m ≤ lanes → Apart lanes (first_turns m)
apart_first lanes zero h = tt
apart_first lanes (suc m) h = apart_push lanes (first_turns m) (fresh_turn m) (apart_first lanes m (omega arith)) (λ x n i a b.
    let low : x.number < m = (in_first m x i).0 in
    let e : x.number ≡ m = meet lanes x.number m a.0 b.0 (omega arith) (omega arith) (a.1 ∙ sym b.1) in
    absurd (omega arith))

pub table_dealt : (lanes retries total : ℕ) → 0 < lanes → Table lanes retries total (dealt lanes total) []
table_dealt lanes retries total some =
    record {
      within = λ x i. let r = in_first (min lanes total) x i in let b : x.number < min lanes total = r.0 in omega arith;
      unsent = λ x i e. (in_first (min lanes total) x i).2;
      few = λ x i. let b : x.missed ≡ 0 = (in_first (min lanes total) x i).1 in omega arith;
      apart = apart_first lanes (min lanes total) (omega arith);
      undone = λ x n i none a. none;
      cover = λ n low.
          let r = lane_of lanes n (n + 1) (omega arith) some in
          let b : r.0 < lanes = r.1 in
          let c : r.0 ≤ n = r.2 in
          inr (fresh_turn r.0, first_in (min lanes total) r.0 (omega arith), r.3);
      done_within = λ n none. absurd none;
    }

pub dealt_fresh : (lanes total : ℕ) (x : Turn) → In x (dealt lanes total) → (x.missed ≡ 0) × (x.lost ≡ false)
dealt_fresh lanes total x i = let r = in_first (min lanes total) x i in (r.1, r.2)

-- ---- after an answer

-- The lane has a next upload, or it has none.
pub follow_cases : (lanes total n : ℕ) → ((n + lanes < total) × (follow lanes total n ≡ fresh_turn (n + lanes) ∷ []))
    ⊎ ((total ≤ n + lanes) × (follow lanes total n ≡ []))
follow_cases lanes total n = grind (arith, nat_tests)

-- Holds if a turn `y` replaces the turn `x`: its uploads are among those of `x`, and those that are completed now were completed before.
abbrev Behind : ℕ → ℕ → ℕ → Turn → List ℕ → List ℕ → Turn → Type 0
Behind lanes retries total x done now y = (y.number < total) × (y.missed ≡ 0 → y.lost ≡ false) × (y.missed ≤ retries)
    × ((n : ℕ) → After lanes y.number n → After lanes x.number n × (In n now → In n done))

table_moved : {lanes retries total : ℕ} {xs : List Turn} {done : List ℕ} (x : Turn) (ys : List Turn) (now : List ℕ)
    → Table lanes retries total (x ∷ xs) done → ((y : Turn) → In y ys → Behind lanes retries total x done now y) → Apart lanes (xs ++ ys)
    → ((n : ℕ) → In n now → (x.number ≡ n) ⊎ In n done) → ((n : ℕ) → In n done → In n now)
    → ((n : ℕ) → n < total → After lanes x.number n → In n now ⊎ ((y : Turn) × In y ys × After lanes y.number n))
    → Table lanes retries total (xs ++ ys) now
table_moved {lanes = lanes} {total = total} {xs = xs} x ys now t new apart less more cover = record {
  within = λ y i. elim (in_append y xs ys i) [ inl j ↦ t.within y (inr j) | inr j ↦ (new y j).0 ];
  unsent = λ y i. elim (in_append y xs ys i) [ inl j ↦ t.unsent y (inr j) | inr j ↦ (new y j).1 ];
  few = λ y i. elim (in_append y xs ys i) [ inl j ↦ t.few y (inr j) | inr j ↦ (new y j).2 ];
  apart = apart;
  undone = λ y n i d a. elim (in_append y xs ys i) [
    | inl j ↦ elim (less n d) [
      | inl e ↦ t.apart.0 y x.number j (after_self lanes x.number) (subst (After lanes y.number) (sym e) a)
      | inr k ↦ t.undone y n (inr j) k a
    ]
    | inr j ↦ let b = (new y j).3 n a in t.undone x n (inl refl) (b.1 d) b.0
  ];
  cover = λ n low. elim (t.cover n low) [
    | inl d ↦ inl (more n d)
    | inr r ↦ elim r.1 [
      | inl e ↦ elim (cover n low (subst (λ (v : Turn). After lanes v.number n) (sym e) r.2))
          [ inl d ↦ inl d | inr s ↦ inr (s.0, in_right s.0 xs ys s.1, s.2) ]
      | inr j ↦ inr (r.0, in_left r.0 xs ys j, r.2)
    ]
  ];
  done_within = λ n d. elim (less n d) [ inl e ↦ subst (λ v. v < total) e (t.within x (inl refl)) | inr k ↦ t.done_within n k ];
}

one_only : (P : Turn → Type 0) (new : Turn) → P new → (y : Turn) → In y (new ∷ []) → P y
one_only P new h y i = elim i [ inl e ↦ subst P e h | inr none ↦ absurd none ]

pub table_answered : {lanes retries total : ℕ} {xs : List Turn} {done : List ℕ} (x : Turn) → 0 < lanes
    → Table lanes retries total (x ∷ xs) done → Table lanes retries total (xs ++ follow lanes total x.number) (x.number ∷ done)
table_answered {lanes = lanes} {retries = retries} {total = total} {xs = xs} {done = done} x some t =
    let T : List Turn → Type 0 = λ v. Table lanes retries total (xs ++ v) (x.number ∷ done) in
    let new = fresh_turn (x.number + lanes) in
    let low : (n : ℕ) → After lanes (x.number + lanes) n → x.number + lanes ≤ n = after_low lanes (x.number + lanes) in
    elim (follow_cases lanes total x.number) [
      | inl h ↦ subst T (sym h.1) (table_moved x (new ∷ []) (x.number ∷ done) t
          (one_only (Behind lanes retries total x done (x.number ∷ done)) new (
            h.0,
            λ e. refl,
            omega arith,
            λ n a. (
              after_next lanes x.number n a,
              λ d. elim d
                  [ inl e ↦ let far = low n a in absurd (omega (arith, far, e)) | inr k ↦ k ],
            ),
          ))
          (apart_push lanes xs new t.apart.1 (λ y n i a b. t.apart.0 y n i (after_next lanes x.number n b) a))
          (λ n d. d) (λ n d. inr d) (λ n within a. elim (after_cases lanes x.number n a)
          [ inl e ↦ inl (inl e) | inr b ↦ inr (new, inl refl, b) ]))
      | inr h ↦ subst T (sym h.1) (table_moved x [] (x.number ∷ done) t (λ y i. absurd i)
          (subst (Apart lanes) (sym (append-nil xs)) t.apart.1)
          (λ n d. d) (λ n d. inr d) (λ n within a. elim (after_cases lanes x.number n a)
          [ inl e ↦ inl (inl e) | inr b ↦ let far = low n b in let none = h.0 in absurd (omega (arith, far, none, within)) ]))
    ]

-- ---- after a send without an answer

pub table_again : {lanes retries total : ℕ} {xs : List Turn} {done : List ℕ} (x : Turn) (lost : Bool) → x.missed < retries
    → Table lanes retries total (x ∷ xs) done → Table lanes retries total (xs ++ again x lost ∷ []) done
table_again {lanes = lanes} {retries = retries} {total = total} {xs = xs} {done = done} x lost low t =
    table_moved x (again x lost ∷ []) done t (one_only (Behind lanes retries total x done done) (again x lost)
    (t.within x (inl refl), λ e. absurd (omega (arith, e)), omega (arith, low), λ n a. (a, λ d. d)))
    (apart_push lanes xs (again x lost) t.apart.1 (λ y n i a b. t.apart.0 y n i b a)) (λ n d. inr d) (λ n d. d)
    (λ n within a. inr (again x lost, inl refl, a))

-- ---- consequences

-- Two turns have different numbers.
pub numbers_apart : {lanes retries total : ℕ} {xs : List Turn} {done : List ℕ} (x y : Turn) → Table lanes retries total (x ∷ xs) done
    → In y xs → x.number ≡ y.number → ⊥
numbers_apart {lanes = lanes} x y t i e = let A : ℕ
    → Type 0 = λ v. After lanes v x.number in t.apart.0 y x.number i (after_self lanes x.number) (subst A e (after_self lanes x.number))

-- The next upload of the lane is not in another turn.
pub next_apart : {lanes retries total : ℕ} {xs : List Turn} {done : List ℕ} (x y : Turn) → Table lanes retries total (x ∷ xs) done → In y xs
    → x.number + lanes ≡ y.number → ⊥
next_apart {lanes = lanes} x y t i e = let A : ℕ → Type 0 = λ v. After lanes y.number v in t.apart.0 y (x.number + lanes) i (1, refl)
    (subst A (sym e) (after_self lanes y.number))

pub not_done : {lanes retries total : ℕ} {xs : List Turn} {done : List ℕ} (x : Turn) → Table lanes retries total xs done → In x xs
    → In x.number done → ⊥
not_done {lanes = lanes} x t i d = t.undone x x.number i d (after_self lanes x.number)

-- If no lane is left, each upload is completed.
pub all_done : {lanes retries total : ℕ} {done : List ℕ} (n : ℕ) → n < total → Table lanes retries total [] done → In n done
all_done n low t = elim (t.cover n low) [ inl d ↦ d | inr r ↦ absurd r.1 ]
