-- Members whose names rise by their bytes, each once.
use Rattle.text_and_lists.proofs.Less.{less_of}
use Rattle.pending_json.specs.Fields.{is_one_of, only_fields}
use Rattle.pending_json.specs.declared.fault.RecordFault.TheVariants.{ExtraField}
use Rattle.serde_json.specs.Data.{Data, Members, array, boolean, member, no_members, null, number, object, put, string}
use Rattle.serde_json.specs.Find.{get_member}
use Rattle.std.proofs.Common.{Bool, Equal, Err, Greater, Less, List, None, Ok, Ordering, Some, ap, ap₂, bytes_eq, cond, false, is_eq}
use Rattle.std.proofs.Common.{nat_cmp, refl, subst, sym, true, true≢false, ℕ, [], ◌&&◌, ◌||◌, ◌∙◌, ◌∷◌, ◌≡◌}
use Rattle.std.proofs.lemmas.Bool.{and_parts}
use Rattle.std.proofs.lemmas.Cmp.{nat_list_cmp_total, tied_itself}
use Rattle.std.proofs.lemmas.Map.Text.{is_eq-slice_cmp}
use Rattle.std.proofs.lemmas.Option.{same_Some}
use Rattle.std.proofs.lemmas.Slice.Eq.{bytes_eq-Decides}
use Rattle.std.specs.Cmp.Lexicographic.{slice_cmp}
use Rattle.std.specs.List.{AllByRecursion}
use Rattle.std.specs.Ordering.{is_lt, match_ordering, ordering_reverse}
use Rattle.std.specs.Prelude.{⊤}

-- Holds if every name is above this one.
abbrev pub Above : List ℕ → Members → Type 0
Above k no_members = ⊤
Above k (member l e ms) = (slice_cmp nat_cmp k l ≡ Less) × Above k ms

abbrev pub Rising : Members → Type 0
Rising no_members = ⊤
Rising (member k d ms) = Above k ms × Rising ms

pub above_next : (k l : List ℕ) (ms : Members) → slice_cmp nat_cmp k l ≡ Less → Above l ms → Above k ms
above_next k l no_members h a = tt
above_next k l (member m e ms) h a = (nat_list_cmp_total.trans k l m h a.0, above_next k l ms h a.1)

pub none_above : (k : List ℕ) (ms : Members) → Above k ms → get_member k ms ≡ None
none_above k no_members a = refl
none_above k (member l e ms) a = rw a.0 (none_above k ms a.1)

pub same : (k l : List ℕ) → slice_cmp nat_cmp k l ≡ Equal → k ≡ l
same k l e = (bytes_eq-Decides k l).0 (sym (is_eq-slice_cmp k l) ∙ ap is_eq e)

pub itself : (k : List ℕ) → slice_cmp nat_cmp k k ≡ Equal
itself k = tied_itself nat_list_cmp_total k

pub turned : (k l : List ℕ) → slice_cmp nat_cmp k l ≡ Greater → slice_cmp nat_cmp l k ≡ Less
turned k l e = nat_list_cmp_total.antisymm l k ∙ ap ordering_reverse e

pub at_first : (k : List ℕ) (d : Data) (ms : Members) → get_member k (member k d ms) ≡ Some d
at_first k d ms = rw (itself k) refl

-- ---- one more member

put_above : (l k : List ℕ) (d : Data) (ms : Members) → slice_cmp nat_cmp l k ≡ Less → Above l ms → Above l (put k d ms)
put_above l k d no_members h a = (h, tt)
put_above l k d (member m e ms) h a = by (slice_cmp nat_cmp k m) (put_above l k d ms h a.1)
  where
    by : (o : Ordering) → Above l (put k d ms) → Above l (match_ordering o (member k d (member m e ms)) (member m d ms)
        (member m e (put k d ms)))
    by Less later = (h, a)
    by Equal later = (a.0, a.1)
    by Greater later = (a.0, later)

put_rising_at : (k l : List ℕ) (d e : Data) (ms : Members) → Rising (member l e ms) → Rising (put k d ms) → (o : Ordering)
    → slice_cmp nat_cmp k l ≡ o
    → Rising (match_ordering o (member k d (member l e ms)) (member l d ms) (member l e (put k d ms)))
put_rising_at k l d e ms r later Less is = ((is, above_next k l ms is r.0), r)
put_rising_at k l d e ms r later Equal is = r
put_rising_at k l d e ms r later Greater is = (put_above l k d ms (turned k l is) r.0, later)

pub put_rising : (k : List ℕ) (d : Data) (ms : Members) → Rising ms → Rising (put k d ms)
put_rising k d no_members r = (tt, tt)
put_rising k d (member l e ms) r = put_rising_at k l d e ms r (put_rising k d ms r.1) _ refl

-- ---- equal members make equal lists

pub some_none : {A P : Type 0} (x : A) → Some x ≡ None → P
some_none x e = absurd cc

-- The rests of two lists with the same first name agree.
rest_agrees_at : (k m : List ℕ) (d e : Data) (cs bs : Members) → Above k cs → Above k bs
    → get_member m (member k d cs) ≡ get_member m (member k e bs) → (o : Ordering) → slice_cmp nat_cmp m k ≡ o
    → get_member m cs ≡ get_member m bs
rest_agrees_at k m d e cs bs a b h Less is = sym (rw is refl) ∙ h ∙ rw is refl
rest_agrees_at k m d e cs bs a b h Equal is =
    let at : k ≡ m = sym (same m k is) in
    none_above m cs (subst (λ x. Above x cs) at a) ∙ sym (none_above m bs (subst (λ x. Above x bs) at b))
rest_agrees_at k m d e cs bs a b h Greater is = sym (rw is refl) ∙ h ∙ rw is refl

abbrev Agree : Members → Members → Type 0
Agree a b = (k : List ℕ) → get_member k a ≡ get_member k b

first_below : (k l : List ℕ) (d e : Data) (cs bs : Members) → Above l bs → slice_cmp nat_cmp k l ≡ Less
    → get_member k (member k d cs) ≡ get_member k (member l e bs) → ⊥
first_below k l d e cs bs b is h = some_none d (sym (at_first k d cs) ∙ h ∙ none_above k (member l e bs) (is, above_next k l bs is b))

same_first : (k l : List ℕ) → k ≡ l → (d e : Data) (cs bs : Members) → Above k cs → Above l bs → Agree (member k d cs) (member l e bs)
    → (Agree cs bs → cs ≡ bs) → member k d cs ≡ member l e bs
same_first k l at d e cs bs a b h again =
    let b0 : Above k bs = subst (λ x. Above x bs) (sym at) b in
    let g : Agree (member k d cs) (member k e bs) = subst (λ x. Agree (member k d cs) (member x e bs)) (sym at) h in
    let first : d ≡ e = same_Some d e (sym (at_first k d cs) ∙ g k ∙ at_first k e bs) in
    let rest : cs ≡ bs = again (λ m. rest_agrees_at k m d e cs bs a b0 (g m) _ refl) in
    ap₂ (λ (x : List ℕ) (y : Data). member x y cs) at first ∙ ap (member l e) rest

same_at : (k l : List ℕ) (d e : Data) (cs bs : Members) → Above k cs → Above l bs → Agree (member k d cs) (member l e bs)
    → (Agree cs bs → cs ≡ bs) → (o : Ordering) → slice_cmp nat_cmp k l ≡ o → member k d cs ≡ member l e bs
same_at k l d e cs bs a b h again Less is = absurd (first_below k l d e cs bs b is (h k))
same_at k l d e cs bs a b h again Greater is = absurd (first_below l k e d bs cs a (turned k l is) (sym (h l)))
same_at k l d e cs bs a b h again Equal is = same_first k l (same k l is) d e cs bs a b h again

pub same_members : (a b : Members) → Rising a → Rising b → Agree a b → a ≡ b
same_members no_members no_members r s h = refl
same_members no_members (member l e bs) r s h = some_none e (sym (at_first l e bs) ∙ sym (h l))
same_members (member k d cs) no_members r s h = some_none d (sym (at_first k d cs) ∙ h k)
same_members (member k d cs) (member l e bs) r s h = same_at k l d e cs bs r.0 s.0 h (same_members cs bs r.1 s.1) _ refl

-- ---- members with the names of one table

name_at : (names : List (List ℕ)) (k l : List ℕ) (ms : Members) (b : Bool) → is_one_of names l ≡ b
    → cond b (only_fields (is_one_of names) ms) (Err (ExtraField l)) ≡ Ok tt → (is_one_of names l ≡ true)
    × (only_fields (is_one_of names) ms ≡ Ok tt)
name_at names k l ms true is e = (is, e)
name_at names k l ms false is e = absurd cc

skipped : (names : List (List ℕ)) (k l : List ℕ) (e : Data) (ms : Members) → is_one_of names k ≡ false → is_one_of names l ≡ true
    → get_member k ms ≡ None → (o : Ordering) → slice_cmp nat_cmp k l ≡ o → get_member k (member l e ms) ≡ None
skipped names k l e ms out inside later Equal is = absurd (true≢false (sym inside ∙ sym (ap (is_one_of names) (same k l is)) ∙ out))
skipped names k l e ms out inside later _ is = rw is later

-- An object that has only names of the table has no other name.
pub no_other : (names : List (List ℕ)) (k : List ℕ) (ms : Members) → only_fields (is_one_of names) ms ≡ Ok tt → is_one_of names k ≡ false
    → get_member k ms ≡ None
no_other names k no_members only out = refl
no_other names k (member l e ms) only out =
    let p = name_at names k l ms _ refl only in
    skipped names k l e ms out p.0 (no_other names k ms p.1 out) _ refl

agree_at : (k name : List ℕ) (a b : Members) (names : List (List ℕ)) → get_member name a ≡ get_member name b
    → (is_one_of names k ≡ true → get_member k a ≡ get_member k b)
    → (t : Bool) → bytes_eq k name ≡ t → (t || is_one_of names k) ≡ true → get_member k a ≡ get_member k b
agree_at k name a b names here later true is g = subst (λ x. get_member x a ≡ get_member x b) (sym ((bytes_eq-Decides k name).0 is)) here
agree_at k name a b names here later false is g = later g

agree_in : (k : List ℕ) (a b : Members) (names : List (List ℕ)) → AllByRecursion (λ name. get_member name a ≡ get_member name b) names
    → is_one_of names k ≡ true → get_member k a ≡ get_member k b
agree_in k a b [] all h = absurd cc
agree_in k a b (name ∷ names) all h = agree_at k name a b names all.0 (agree_in k a b names all.1) _ refl h

-- Two lists of rising members with names of one table are the same, if they agree at these names.
pub one_table : (names : List (List ℕ)) (a b : Members) → Rising a → Rising b → only_fields (is_one_of names) a ≡ Ok tt
    → only_fields (is_one_of names) b ≡ Ok tt
    → AllByRecursion (λ name. get_member name a ≡ get_member name b) names → a ≡ b
one_table names a b r s only_a only_b all = same_members a b r s (λ k. by k (is_one_of names k) refl)
  where
    by : (k : List ℕ) (t : Bool) → is_one_of names k ≡ t → get_member k a ≡ get_member k b
    by k true is = agree_in k a b names all is
    by k false is = no_other names k a only_a is ∙ sym (no_other names k b only_b is)

-- ---- the test whether names rise

abbrev below : List ℕ → Members → Bool
below k no_members = true
below k (member l e ms) = is_lt (slice_cmp nat_cmp k l) && below k ms

abbrev pub rises : Members → Bool
rises no_members = true
rises (member k d ms) = below k ms && rises ms

above_by : (k : List ℕ) (ms : Members) → below k ms ≡ true → Above k ms
above_by k no_members h = tt
above_by k (member l e ms) h = let p = and_parts _ _ h in (less_of _ p.0, above_by k ms p.1)

pub rising_by : (ms : Members) → rises ms ≡ true → Rising ms
rising_by no_members h = tt
rising_by (member k d ms) h = let p = and_parts _ _ h in (above_by k ms p.0, rising_by ms p.1)

-- The members of an object.
abbrev pub inside : Data → Members
inside null = no_members
inside (boolean b) = no_members
inside (number n) = no_members
inside (string s) = no_members
inside (array ds) = no_members
inside (object ms) = ms
