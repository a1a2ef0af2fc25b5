-- The lines of sends that have a fate. Reading a printed line gives its fate, and what is read keeps the bounds.
use Rattle.text_and_lists.proofs.Bools.{contrary}
use Rattle.text_and_lists.proofs.EntriesFrom.{AreAbove, all_entries_from, entries_from, entry_from, find_head, find_other, no_entry_from}
use Rattle.text_and_lists.proofs.EntriesFrom.{not_found}
use Rattle.text_and_lists.proofs.EntriesFrom.{other_key}
use Rattle.text_and_lists.proofs.Naturals.{less_is}
use Rattle.text_and_lists.proofs.Options.{none_is}
use Rattle.text_and_lists.proofs.Reading.{parted, same_ok}
use Rattle.text_and_lists.proofs.Round.{number_in-decimal}
use Rattle.text_and_lists.proofs.Tree.{map_sorted}
use Rattle.text_and_lists.specs.Reading.{check, need, ◌>>=◌}
use Rattle.text_and_lists.specs.Words.{ended, text_of}
use Rattle.job_model.specs.Legal.{AreFates}
use Rattle.job_script.proofs.HeadLines.{Holds, IsName, IsSoundHead, headed}
use Rattle.job_script.proofs.Lines.{Goes, IsPrinted, goes_nowhere, goes_on, goes_through, printed, said}
use Rattle.job_script.proofs.Words.{decimal_lettered, number_bounds}
use Rattle.job_script.specs.HeadLines.{count_of, has_one, loss_at, loss_line, loss_lines, loss_of, named_at, row}
use Rattle.job_script.specs.Kinds.{fate_word, fates}
use Rattle.job_script.specs.Script.{said_at, words_at}
use Rattle.job_script.specs.declared.draft.Loss.{Loss}
use Rattle.job_script.specs.declared.fault.ScriptFault.{ScriptFault}
use Rattle.job_script.specs.declared.fault.ScriptFault.TheVariants.{RepeatedName, TooLarge}
use Rattle.job_script.specs.declared.head.Head.{Head}
use Rattle.job_script.specs.declared.head.HeadWord.{HeadWord}
use Rattle.s3_types.proofs.Spans.{get_with_fates}
use Rattle.s3_types.specs.Fates.{FateMap, IsFirstFrom, IsFirstNamed, is_answer, with_fates}
use Rattle.s3_types.specs.declared.fates.Fate.{Fate}
use Rattle.s3_types.specs.declared.fates.FateFault.{FateFault}
use Rattle.s3_types.specs.declared.fates.FateFault.TheVariants.{Taken}
use Rattle.std.proofs.Common.{Bool, Err, List, None, Ok, Option, Result, Some, ap, append_assoc, arith, cond, decimal, false, inl, inr}
use Rattle.std.proofs.Common.{is_some, length, lit<, map, refl, subst, suc, sym, true, true≢false, zero, ℕ, [], ◌++◌, ◌+◌, ◌-◌, ◌<◌, ◌||◌}
use Rattle.std.proofs.Common.{◌↔◌, ◌∙◌, ◌∷◌, ◌≡◌, ◌≤◌}
use Rattle.std.proofs.lemmas.Bool.{cases_lt, le-leb, lt-ltb}
use Rattle.std.proofs.lemmas.Bool.Decides.{nat_tests}
use Rattle.std.proofs.lemmas.List.{append-nil}
use Rattle.std.proofs.lemmas.Map.Keys.{sorted_head, sorted_tail}
use Rattle.std.proofs.lemmas.Map.Lookups.{exact_unsigned}
use Rattle.std.specs.Cmp.{nat_cmp_total}
use Rattle.std.specs.FinMap.Entries.{find}
use Rattle.std.specs.List.{AllByRecursion}
use Rattle.std.specs.List.Sorted.{IsStrictlySortedBy}
use Rattle.std.specs.Map.{keys_of}
use Rattle.std.specs.Ordering.{eq_by_cmp, nat_cmp}
use Rattle.std.specs.Prelude.{IfSome, IsErrOf, OnOk, codes, is_some, nat_le, nat_lt, ⊤, ◌&&◌}
use Rattle.std.specs.FinMap as fin
use Rattle.s3_types.specs.declared.fates.Fate.TheVariants as fate
use Rattle.job_script.specs.declared.head.HeadWord.TheVariants as head
use Rattle.job_script.specs.declared.draft.Group.TheVariants as group
use Rattle.job_script.specs.declared.kinds.Kind.TheVariants as kind

-- ---- reading printed fates

-- The map with these entries added.
abbrev pub made : FateMap → List (ℕ × Fate) → FateMap
made m [] = m
made m (e ∷ es) = made (fin.insert m e.0 e.1) es

-- The first value if there is one, otherwise the second.
abbrev either_value : Option Fate → Option Fate → Option Fate
either_value (Some x) o = Some x
either_value None o = o

get_made : (es : List (ℕ × Fate)) (m : FateMap) (q : ℕ) → IsStrictlySortedBy nat_cmp (keys_of es)
    → fin.get (made m es) q ≡ either_value (find nat_cmp q es) (fin.get m q)
get_made [] m q s = refl
get_made (e ∷ es) m q s =
    get_made es (fin.insert m e.0 e.1) q (sorted_tail nat_cmp e.0 (keys_of es) s)
    ∙ ap (either_value (find nat_cmp q es)) (fin.get-insert nat_cmp_total m e.0 e.1 q)
    ∙ by (eq_by_cmp nat_cmp q e.0) refl
  where
    above : AreAbove e.0 es
    above = sorted_head nat_cmp e.0 (keys_of es) s

    by : (b : Bool) → eq_by_cmp nat_cmp q e.0 ≡ b → either_value (find nat_cmp q es) (cond b (Some e.1) (fin.get m q)) ≡ either_value
        (cond b (Some e.1) (find nat_cmp q es)) (fin.get m q)
    by true k = ap (λ o. either_value o (Some e.1)) (not_found e.0 q es (at_most k) above)
      where
        at_most : eq_by_cmp nat_cmp q e.0 ≡ true → q ≤ e.0
        at_most k = grind (arith, nat_tests)
    by false k = refl

-- A map that is made of a map's entries is that map.
made_again : (m : FateMap) → made fin.empty (fin.entries m) ≡ m
made_again m =
    fin.same_map nat_cmp_total exact_unsigned (made fin.empty (fin.entries m)) m
    (λ q. get_made (fin.entries m) fin.empty q (map_sorted nat_cmp m) ∙ ap (either_value (find nat_cmp q (fin.entries m)))
    (fin.get-empty nat_cmp q) ∙ alone (find nat_cmp q (fin.entries m)) ∙ sym (fin.get-entries m q))
  where
    alone : (o : Option Fate) → either_value o None ≡ o
    alone (Some x) = refl
    alone None = refl

-- Holds if a `loss` line may give this send this fate.
pub record IsLost (e : ℕ × Fate) : Type 0 where
  pub low : 1 ≤ e.0
  pub high : e.0 ≤ 1000000000
  pub lost : is_answer e.1 ≡ false

fate_is : (f : Fate) → is_answer f ≡ false → IsName fates fate_word f
fate_is fate.Answer h = absurd cc
fate_is f h = (refl, refl)

-- A loss of one send.
abbrev lone : ℕ × Fate → Loss
lone e = record { first = e.0; fate = e.1; count = 1 }

loss_again : (n : ℕ) (e : ℕ × Fate) → IsLost e → loss_of n (decimal e.0 ∷ fate_word e.1 ∷ []) ≡ Ok (lone e)
unfolding loss_of
loss_again n e h =
    let last : e.0 + 1 ≤ 1000000001 = omega (arith, h.high) in
    rw ((fate_is e.1 h.lost).0, number_in-decimal 1 1000000000 e.0 h.low h.high (lit< tt), le-leb (e.0 + 1) 1000000001 last) refl

none_there : (m : FateMap) (k : ℕ) → fin.get m k ≡ None → has_one m k 1 ≡ false
unfolding has_one
none_there m k h = let e : k + 0 ≡ k = omega arith in ap (λ (x : ℕ). is_some (fin.get m x)) e ∙ ap is_some h

one_fate : (m : FateMap) (k : ℕ) (f : Fate) → with_fates m k f 1 ≡ fin.insert m k f
unfolding with_fates
one_fate m k f = let e : k + 0 ≡ k = omega arith in ap (λ (x : ℕ). fin.insert m x f) e

named_again : (n : ℕ) (m : FateMap) (e : ℕ × Fate) → fin.get m e.0 ≡ None → named_at n (lone e) m ≡ Ok (fin.insert m e.0 e.1)
unfolding named_at
named_again n m e h = rw (none_there m e.0 h) (ap (λ (x : FateMap). Ok x) (one_fate m e.0 e.1))

line_again : (n : ℕ) (h : Head) (values : List (List ℕ)) (l : Loss) (m : FateMap) → loss_of n values ≡ Ok l → named_at n l h.fates ≡ Ok m
    → 0 < h.losses_left → loss_at n h values ≡ Ok (record h { fates = m; losses_left = h.losses_left - 1 })
unfolding loss_at
line_again n h values l m a b few = rw (a, b, lt-ltb 0 h.losses_left few) refl

loss_printed : (e : ℕ × Fate) → IsLost e → IsPrinted (loss_line e)
loss_printed e h = printed (codes "loss") (decimal e.0 ∷ fate_word e.1 ∷ []) (rw
    (decimal_lettered e.0 (omega (arith, h.high)), (fate_is e.1 h.lost).1) refl) refl

-- The head after one more such line.
abbrev with_loss : Head → ℕ × Fate → Head
with_loss h e = record h { fates = fin.insert h.fates e.0 e.1; losses_left = h.losses_left - 1 }

loss_read : (n : ℕ) (h : Head) (e : ℕ × Fate) → IsLost e → fin.get h.fates e.0 ≡ None → 0 < h.losses_left
    → words_at n (headed h) (loss_line e) ≡ Ok (headed (with_loss h e))
unfolding said_at
loss_read n h e is new few =
    let values = decimal e.0 ∷ fate_word e.1 ∷ [] in
    said n (codes "loss") kind.Loss group.Head values (headed h) _ refl refl
    (ap (λ r. r >>= λ (k : Head). Ok (headed k)) (line_again n h values (lone e) (fin.insert h.fates e.0 e.1) (loss_again n e is)
    (named_again n h.fates e new) few))

-- Holds if the map has none of these entries yet.
abbrev AreNew : FateMap → List (ℕ × Fate) → Type 0
AreNew m es = AllByRecursion (λ e. fin.get m e.0 ≡ None) es

still_new : (m : FateMap) (k : ℕ) (f : Fate) (es : List (ℕ × Fate)) → AreAbove k es → AreNew m es → AreNew (fin.insert m k f) es
still_new m k f [] above h = tt
still_new m k f (e ∷ es) above h =
    let lt = less_is k e.0 above.0 in (
      fin.get-insert nat_cmp_total m k f e.0 ∙ ap (λ b. cond b (Some f) (fin.get m e.0)) (other_key e.0 k (λ q. omega (arith, lt, q))) ∙
          h.0,
      still_new m k f es above.1 h.1,
    )

all_new : (es : List (ℕ × Fate)) → AreNew fin.empty es
all_new [] = tt
all_new (e ∷ es) = (fin.get-empty nat_cmp e.0, all_new es)

-- The head after the lines of these entries.
abbrev lost : Head → List (ℕ × Fate) → Head
lost h [] = h
lost h (e ∷ es) = lost (with_loss h e) es

lost_is : (h : Head) (es : List (ℕ × Fate)) → lost h es ≡ record h { fates = made h.fates es; losses_left = (lost h es).losses_left }
lost_is h [] = refl
lost_is h (e ∷ es) = lost_is (with_loss h e) es

entries_go : (n : ℕ) (h : Head) (es : List (ℕ × Fate)) → AllByRecursion IsLost es → IsStrictlySortedBy nat_cmp (keys_of es)
    → AreNew h.fates es → length es ≤ h.losses_left → Goes n (headed h) (map loss_line es) (headed (lost h es))
entries_go n h [] is s new few = goes_nowhere n (headed h)
entries_go n h (e ∷ es) is s new few =
    let next = with_loss h e in
    goes_through n (headed h) (loss_line e ∷ []) (headed next) (map loss_line es) (headed (lost next es))
    (goes_on n (headed h) (headed next) (loss_line e) (loss_printed e is.0) (loss_read n h e is.0 new.0 (omega (arith, few))))
    (entries_go (n + 1) next es is.1 (sorted_tail nat_cmp e.0 (keys_of es) s)
    (still_new h.fates e.0 e.1 es (sorted_head nat_cmp e.0 (keys_of es) s) new.1) (omega (arith, few)))

all_lost : (es : List (ℕ × Fate)) → IsStrictlySortedBy nat_cmp (keys_of es)
    → ((k : ℕ) (f : Fate) → find nat_cmp k es ≡ Some f → IsLost (k, f)) → AllByRecursion IsLost es
all_lost [] s h = tt
all_lost (e ∷ es) s h =
    let above = sorted_head nat_cmp e.0 (keys_of es) s in (
      h e.0 e.1 (find_head e es),
      all_lost es (sorted_tail nat_cmp e.0 (keys_of es) s)
          (λ k f found. h k f (find_other k e es (λ q. let none : None ≡ Some f = sym (not_found e.0 k es (omega (arith, q)) above) ∙ found
          in
          absurd cc) ∙ found)),
    )

entries_lost : (m : FateMap) → AreFates m → AllByRecursion IsLost (fin.entries m)
entries_lost m h = all_lost (fin.entries m) (map_sorted nat_cmp m) (λ k f found. let b = h k f (fin.get-entries m k ∙ found) in record
    { low = b.0; high = b.1; lost = b.2 })

-- How many more lines might come does not matter in the end.
pub losses_go : (n : ℕ) (h : Head) (m : FateMap) → h.fates ≡ fin.empty → AreFates m → fin.len m ≤ h.losses_left
    → (k : ℕ) × Goes n (headed h) (loss_lines m) (headed (record h { fates = m; losses_left = k }))
losses_go n h m e are few =
    let count : length (fin.entries m) ≤ h.losses_left = subst (λ (x : ℕ). x ≤ h.losses_left) (fin.len-entries m) few in
    let new : AreNew h.fates (fin.entries m) = subst (λ (x : FateMap). AreNew x (fin.entries m)) (sym e) (all_new (fin.entries m)) in
    let whole : made h.fates (fin.entries m) ≡ m = ap (λ (x : FateMap). made x (fin.entries m)) e ∙ made_again m in
    let k = (lost h (fin.entries m)).losses_left in
    let is = lost_is h (fin.entries m) ∙ ap (λ (x : FateMap). record h { fates = x; losses_left = k }) whole in (
      k,
      subst (λ (x : Head). Goes n (headed h) (loss_lines m) (headed x)) is (entries_go n h (fin.entries m) (entries_lost m are)
          (map_sorted nat_cmp m) new count),
    )

-- ---- what is read keeps the bounds

count_bounds : (third : Option (List ℕ)) (e : ScriptFault) (x : ℕ) → need (count_of third) e ≡ Ok x → (1 ≤ x) × (x ≤ 1000)
count_bounds third e x h = grind (arith, number_bounds)

-- The bounds of consecutive sends with a fate.
pub record IsLoss (l : Loss) : Type 0 where
  pub first : 1 ≤ l.first
  pub last : l.first + l.count ≤ 1000000001
  pub lost : is_answer l.fate ≡ false

loss_sound : (n : ℕ) (values : List (List ℕ)) (l : Loss) → loss_of n values ≡ Ok l → IsLoss l
unfolding loss_of
loss_sound n values l h = grind (arith, number_bounds, count_bounds)

fate_at : (b : Bool) (f x : Fate) (o : Option Fate) (P : Type 0) → (b ≡ true → P) → (is_answer f ≡ false)
    → (o ≡ Some x → P × (is_answer x ≡ false)) → cond b (Some f) o ≡ Some x → P × (is_answer x ≡ false)
fate_at b f x o P new lost old h = grind arith

in_row : (first count n : ℕ) → 1 ≤ first → first + count ≤ 1000000001 → (nat_le first n && nat_lt n (first + count)) ≡ true → (1 ≤ n)
    × (n ≤ 1000000000)
in_row first count n low high h = grind arith

fates_sound : (m : FateMap) (l : Loss) → IsLoss l → AreFates m → AreFates (with_fates m l.first l.fate l.count)
fates_sound m l is old n fate h =
    let k = sym (get_with_fates m l.first l.fate l.count n) ∙ h in
    let r = fate_at (nat_le l.first n && nat_lt n (l.first + l.count)) l.fate fate (fin.get m n) ((1 ≤ n) × (n ≤ 1000000000))
    (in_row l.first l.count n is.first is.last) is.lost (λ g. let o = old n fate g in ((o.0, o.1), o.2)) k in
    (r.0.0, r.0.1, r.1)

named_is : (n : ℕ) (l : Loss) (m after : FateMap) → named_at n l m ≡ Ok after → with_fates m l.first l.fate l.count ≡ after
unfolding named_at
named_is n l m after e = grind arith

named_sound : (n : ℕ) (l : Loss) (m after : FateMap) → named_at n l m ≡ Ok after → IsLoss l → AreFates m → AreFates after
named_sound n l m after e is old = subst AreFates (named_is n l m after e) (fates_sound m l is old)

-- A line `loss` gives none of the other values.
fates_kept : (w : HeadWord) (h : Head) (m : FateMap) (k : ℕ) → IfSome ((row w).kept h) (Holds w)
    → IfSome ((row w).kept (record h { fates = m; losses_left = k })) (Holds w)
fates_kept head.Job h m k b = b
fates_kept w h m k b = b

pub loss_line_sound : (n : ℕ) (h k : Head) (values : List (List ℕ)) → loss_at n h values ≡ Ok k → IsSoundHead h → IsSoundHead k
unfolding loss_at
loss_line_sound n h k values e s =
    let a = parted (loss_of n values) _ _ e in
    let b = parted (named_at n a.value h.fates) _ _ a.next in
    let c = parted (check (nat_lt 0 h.losses_left) TooLarge) _ _ b.next in
    subst IsSoundHead (same_ok (record h { fates = b.value; losses_left = h.losses_left - 1 }) k c.next)
    (record {
      values = λ w. fates_kept w h b.value (h.losses_left - 1) (s.values w);
      fates = named_sound n a.value h.fates b.value b.first
          (loss_sound n values a.value a.first) s.fates;
    })

-- ---- consecutive sends of which one has a fate

or_right : (b : Bool) → b || true ≡ true
or_right b = grind arith

or_none : (a b : Bool) → a || b ≡ false → (a ≡ false) × (b ≡ false)
or_none a b h = grind arith

-- If a send among these has a fate, the test finds one.
pub some_named : (m : FateMap) (first count n : ℕ) → first ≤ n → n < first + count → is_some (fin.get m n) ≡ true
    → has_one m first count ≡ true
unfolding has_one
some_named m first zero n low high some = absurd (omega (arith, low, high))
some_named m first (suc c) n low high some =
    elim (cases_lt n (first + c)) [
      | inl lt ↦ rw (some_named m first c n low lt some) refl
      | inr le ↦ let e : first + c ≡ n = omega (arith, le, high) in ap (λ (k : ℕ). has_one m first c || is_some (fin.get m k)) e ∙ ap
          (λ (b : Bool). has_one m first c || b) some ∙ or_right (has_one m first c)
    ]

-- If the test finds none, no send among these has a fate.
pub none_named : (m : FateMap) (first count n : ℕ) → has_one m first count ≡ false → first ≤ n → n < first + count → fin.get m n ≡ None
unfolding has_one
none_named m first zero n h low high = absurd (omega (arith, low, high))
none_named m first (suc c) n h low high =
    let parts = or_none (has_one m first c) _ h in
    elim (cases_lt n (first + c)) [
      | inl lt ↦ none_named m first c n parts.0 low lt
      | inr le ↦ let e : first + c ≡ n = omega (arith, le, high) in ap (fin.get m) (sym e) ∙ none_is _ parts.1
    ]

wider : (m : FateMap) (first c : ℕ) → ((n : ℕ) × IsFirstNamed m first c n) → (n : ℕ) × IsFirstNamed m first (suc c) n
wider m first c f = (f.0, record { from = f.1.from; within = omega (arith, f.1.within); named = f.1.named; least = f.1.least })

-- If one has a fate, there is a first one that has.
pub first_of_some : (m : FateMap) (first count : ℕ) → has_one m first count ≡ true → (n : ℕ) × IsFirstNamed m first count n
unfolding has_one
first_of_some m first zero h = absurd (true≢false (sym h))
first_of_some m first (suc c) h = by (has_one m first c) refl (first_of_some m first c)
  where
    by : (b : Bool) → has_one m first c ≡ b → (has_one m first c ≡ true → (n : ℕ) × IsFirstNamed m first c n) → (n : ℕ)
        × IsFirstNamed m first (suc c) n
    by true e old = wider m first c (old e)
    by false e old =
        let some : is_some (fin.get m (first + c)) ≡ true = sym (ap (λ (b : Bool). b || is_some (fin.get m (first + c))) e) ∙ h in (
          first + c,
          record {
            from = omega arith;
            within = omega arith;
            named = some;
            least = λ k low high. none_named m first c k e low high;
          },
        )

-- The result if the sends got their fate.
pub named_where_ok : (r : Result ⊤ FateFault) (u : ⊤) (n : ℕ) (loss : Loss) (m new : FateMap) → r ≡ Ok u
    → OnOk r (new ≡ with_fates m loss.first loss.fate loss.count) → ((k : ℕ) → IsErrOf r (Taken k) ↔ IsFirstNamed m loss.first loss.count k)
    → named_at n loss m ≡ Ok new
unfolding named_at
named_where_ok (Err f) u n loss m new e ok taken = absurd cc
named_where_ok (Ok v) u n loss m new e ok taken = rw (contrary (has_one m loss.first loss.count)
    (λ h. let f = first_of_some m loss.first loss.count h in let t = (taken f.0).1 f.1 in absurd cc)) (ap Ok (sym ok))

-- The result if one of them had a fate.
pub named_where_taken : (r : Result ⊤ FateFault) (f : FateFault) (j n : ℕ) (loss : Loss) (m : FateMap) → r ≡ Err f → f ≡ Taken j
    → ((k : ℕ) → IsErrOf r (Taken k) ↔ IsFirstNamed m loss.first loss.count k) → named_at n loss m ≡ Err (RepeatedName n)
unfolding named_at
named_where_taken r f j n loss m e g taken =
    let named = (taken j).0 (subst (λ (q : Result ⊤ FateFault). IsErrOf q (Taken j)) (sym (e ∙ ap (λ (x : FateFault). Err x) g)) refl) in
    rw (some_named m loss.first loss.count j named.from named.within named.named) refl

-- ---- the lines as they are written

-- The lines of the sends from n on.
abbrev pub losses_from : ℕ → FateMap → List ℕ
losses_from n m = text_of (map loss_line (entries_from n m))

pub all_losses : (m : FateMap) (out : List ℕ) → ((n : ℕ) (fate : Fate) → fin.get m n ≡ Some fate → 1 ≤ n)
    → out ++ losses_from 1 m ≡ out ++ text_of (loss_lines m)
all_losses m out h = ap (λ (es : List (ℕ × Fate)). out ++ text_of (map loss_line es)) (all_entries_from m 1 h)

pub next_loss : (m : FateMap) (n k : ℕ) (fate : Fate) (out new all : List ℕ) → IsFirstFrom m n (Some (k, fate))
    → new ≡ out ++ ended (loss_line (k, fate)) → out ++ losses_from n m ≡ all → new ++ losses_from (k + 1) m ≡ all
next_loss m n k fate out new all h e i =
    let first : entries_from n m ≡ (k, fate) ∷ entries_from (k + 1) m = entry_from m n k fate h.0 h.1 h.2 in
    ap (λ l. l ++ losses_from (k + 1) m) e
    ∙ append_assoc out (ended (loss_line (k, fate))) (losses_from (k + 1) m)
    ∙ ap (λ (es : List (ℕ × Fate)). out ++ text_of (map loss_line es)) (sym first)
    ∙ i

pub no_loss : (m : FateMap) (n : ℕ) (out all : List ℕ) → IsFirstFrom m n None → out ++ losses_from n m ≡ all → out ≡ all
no_loss m n out all h i = sym (append-nil out) ∙ sym (ap (λ (es : List (ℕ × Fate)). out ++ text_of (map loss_line es))
    (no_entry_from m n h)) ∙ i
