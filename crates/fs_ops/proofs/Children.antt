-- What a delimited listing shows of a directory's children. Contracts cite none of these laws.
use Rattle.text_and_lists.proofs.Bools.{not_so}
use Rattle.text_and_lists.proofs.Less.{lt}
use Rattle.text_and_lists.proofs.Members.{filter_in, in_filter, in_map, map_in, nat_true, none_some, some_is, text_exact}
use Rattle.text_and_lists.proofs.Tree.{map_sorted, tied}
use Rattle.text_and_lists.specs.Members.{IsIn, RisesFrom}
use Rattle.text_and_lists.specs.Order.{text_cmp}
use Rattle.text_and_lists.specs.Parts.{is_other}
use Rattle.dir_markers.specs.declared.status.Status.{Status}
use Rattle.dir_markers.specs.declared.status.Status.TheVariants.{Directory, File}
use Rattle.fs_tree.proofs.Begins.{begins_more}
use Rattle.fs_tree.proofs.Moving.{rest_after}
use Rattle.fs_tree.specs.Changes.{text_by}
use Rattle.fs_tree.specs.Tree.{NoneBelow, SomeBelow}
use Rattle.fs_tree.specs.declared.answers.DirEntry.{DirEntry}
use Rattle.s3_types.specs.Pages.{before_slash, begins, entry_by, entry_of, folded_from, is_again, listed, stem, text_in}
use Rattle.s3_types.specs.Store.{Objects}
use Rattle.s3_types.specs.declared.object.Object.{Object}
use Rattle.s3_types.specs.declared.reply.PageEntry.{PageEntry}
use Rattle.s3_types.specs.declared.reply.PageEntry.TheVariants.{Object as Single, Prefix}
use Rattle.std.proofs.Common.{ap, append_assoc, arith, inl, inr, refl, subst, sym, ◌∙◌}
use Rattle.std.proofs.lemmas.Bool.{and_parts, eqb-true, false≢true}
use Rattle.std.proofs.lemmas.List.{append_cancel_left, append_cancel_right}
use Rattle.std.specs.List.{filter, list_all}
use Rattle.std.specs.Option.{option_map}
use Rattle.std.specs.Ordering.{is_lt}
use Rattle.std.specs.Prelude.{Bool, List, None, Option, Some, cond, false, length, map, not, true, ℕ, [], ◌&&◌, ◌++◌, ◌==◌, ◌∷◌, ◌≡◌, ◌⊎◌}
use Rattle.store_frame.proofs.Flat.{found_at, found_in}
use Rattle.store_frame.proofs.Listed.{walked_listed}
use Rattle.store_frame.specs.inner.Walk.{text_of as walked_text, walked}
use Rattle.std.specs.FinMap as fin

abbrev pub NoSlash : List ℕ → Type 0
NoSlash n = list_all (is_other 47) n ≡ true

abbrev child_at : List ℕ → Status → DirEntry
child_at n s = record { name = n; status = s }

-- ---- a text up to its first `/`

before_at : (n : List ℕ) → NoSlash n → before_slash n ≡ None
before_at [] h = refl
before_at (x ∷ n) h =
    let w = and_parts (not (x == 47)) (list_all (is_other 47) n) h in
    ap (λ b. cond b (Some []) (option_map (λ s. x ∷ s) (before_slash n))) (not_so (x == 47) w.0) ∙ ap (option_map (λ s. x ∷ s))
    (before_at n w.1)

before_one : (n w : List ℕ) → NoSlash n → before_slash (n ++ 47 ∷ w) ≡ Some n
before_one [] w h = refl
before_one (x ∷ n) w h =
    let g = and_parts (not (x == 47)) (list_all (is_other 47) n) h in
    ap (λ b. cond b (Some []) (option_map (λ s. x ∷ s) (before_slash (n ++ 47 ∷ w)))) (not_so (x == 47) g.0) ∙ ap (option_map (λ s. x ∷ s))
    (before_one n w g.1)

stem_more : (q k : List ℕ) (x : ℕ) → stem (x ∷ q) (x ∷ k) ≡ option_map (λ s. x ∷ s) (stem q k)
stem_more q k x = ap (λ b. cond b (option_map (λ s. x ∷ s) (stem q k)) None) (nat_true x x refl)

-- The same after a prefix.
pub stem_at : (q n : List ℕ) → NoSlash n → stem q (q ++ n) ≡ None
stem_at [] n h = before_at n h
stem_at (x ∷ q) n h = stem_more q (q ++ n) x ∙ ap (option_map (λ s. x ∷ s)) (stem_at q n h)

pub stem_one : (q n w : List ℕ) → NoSlash n → stem q (q ++ (n ++ 47 ∷ w)) ≡ Some (q ++ n)
stem_one [] n w h = before_one n w h
stem_one (x ∷ q) n w h = stem_more q (q ++ (n ++ 47 ∷ w)) x ∙ ap (option_map (λ s. x ∷ s)) (stem_one q n w h)

-- Holds if a text has no `/`, or is cut at its first one.
abbrev Cut : List ℕ → Type 0
Cut r = NoSlash r ⊎ ((n : List ℕ) × (w : List ℕ) × (r ≡ n ++ 47 ∷ w) × NoSlash n)

cut : (r : List ℕ) → Cut r
cut [] = inl refl
cut (x ∷ r) = by (x == 47) refl (cut r)
  where
    by : (b : Bool) → (x == 47) ≡ b → Cut r → Cut (x ∷ r)
    by true e c = inr ([], r, ap (λ v. v ∷ r) (eqb-true x 47 e), refl)
    by false e (inl n) = inl (ap (λ b. not b && list_all (is_other 47) r) e ∙ n)
    by false e (inr c) = inr (x ∷ c.0, c.1, ap (λ l. x ∷ l) c.2, ap (λ b. not b && list_all (is_other 47) c.0) e ∙ c.3)

-- A name with a `/` after it has a `/`.
slashed : (n m : List ℕ) → NoSlash m → m ≡ n ++ 47 ∷ [] → ⊥
slashed n m h e = false≢true (sym (all n) ∙ ap (list_all (is_other 47)) (sym e) ∙ h)
  where
    all : (n : List ℕ) → list_all (is_other 47) (n ++ 47 ∷ []) ≡ false
    all [] = refl
    all (x ∷ n) = ap (λ b. is_other 47 x && b) (all n) ∙ (elim (is_other 47 x) as (λ b. (b && false) ≡ false)
        [ true ↦ refl | false ↦ refl ])

-- ---- children as entries

abbrev pub entry_at : List ℕ → List ℕ → Status → PageEntry
entry_at q n Directory = Prefix ((q ++ n) ++ 47 ∷ [])
entry_at q n (File l) = Single (q ++ n) l

-- The listing's entry of a child below a prefix.
abbrev pub entry_from : List ℕ → DirEntry → PageEntry
entry_from q d = entry_at q d.name d.status

pub text_at : (q n : List ℕ) (s : Status) → text_in (entry_at q n s) ≡ q ++ text_by n s
text_at q n Directory = append_assoc q n (47 ∷ [])
text_at q n (File l) = refl

-- Holds if a key shows the child: its own, or one below it.
abbrev pub Standing : List ℕ → Objects → List ℕ → Status → Type 0
Standing q z n Directory = (w : List ℕ) × (o : Object) × (fin.get z (q ++ (n ++ 47 ∷ w)) ≡ Some o)
Standing q z n (File l) = (o : Object) × (fin.get z (q ++ n) ≡ Some o) × (length o.bytes ≡ l)

pub record IsChild (q : List ℕ) (z : Objects) (d : DirEntry) : Type 0 where
  pub plain : NoSlash d.name
  pub stands : Standing q z d.name d.status

-- A text that ends so comes after the empty one.
some_behind : (n w : List ℕ) → lt text_cmp [] (n ++ 47 ∷ w) ≡ true
some_behind [] w = refl
some_behind (x ∷ n) w = refl

-- ---- what is listed

abbrev Entry : Type 0
Entry = List ℕ × Object

pub folded_sub : (last : Option (List ℕ)) (xs : List PageEntry) (x : PageEntry) → IsIn x (folded_from last xs) → IsIn x xs
folded_sub last [] x i = absurd i
folded_sub last (y ∷ ys) x i = by (is_again last y) refl (folded_sub last ys x) (folded_sub (Some (text_in y)) ys x)
  where
    by : (b : Bool) → is_again last y ≡ b → (IsIn x (folded_from last ys) → IsIn x ys)
        → (IsIn x (folded_from (Some (text_in y)) ys) → IsIn x ys) → IsIn x (y ∷ ys)
    by b h g e = grind arith

-- Holds if an entry with this text is listed.
abbrev HasText : List ℕ → List PageEntry → Type 0
HasText t xs = (y : PageEntry) × IsIn y xs × (text_in y ≡ t)

again_text : (last : Option (List ℕ)) (y : PageEntry) → is_again last y ≡ true → last ≡ Some (text_in y)
again_text None y h = absurd (false≢true h)
again_text (Some t) y h = ap Some (text_exact t (text_in y) (tied (text_cmp t (text_in y)) h))

folded_all : (last : Option (List ℕ)) (xs : List PageEntry) (x : PageEntry) → IsIn x xs → HasText (text_in x) (folded_from last xs)
    ⊎ (last ≡ Some (text_in x))
folded_all last [] x i = absurd i
folded_all last (y ∷ ys) x i = by (is_again last y) refl i (folded_all last ys x) (folded_all (Some (text_in y)) ys x)
  where
    later : HasText (text_in x) (folded_from (Some (text_in y)) ys) ⊎ (Some (text_in y) ≡ Some (text_in x))
        → HasText (text_in x) (y ∷ folded_from (Some (text_in y)) ys) ⊎ (last ≡ Some (text_in x))
    later h = grind arith

    by : (b : Bool) → is_again last y ≡ b → (x ≡ y) ⊎ IsIn x ys
        → (IsIn x ys → HasText (text_in x) (folded_from last ys) ⊎ (last ≡ Some (text_in x)))
        → (IsIn x ys → HasText (text_in x) (folded_from (Some (text_in y)) ys) ⊎ (Some (text_in y) ≡ Some (text_in x)))
        → HasText (text_in x) (cond (is_again last y) (folded_from last ys) (y ∷ folded_from (Some (text_in y)) ys))
        ⊎ (last ≡ Some (text_in x))
    by true e (inl h) old new = inr (again_text last y e ∙ ap (λ v. Some (text_in v)) (sym h))
    by true e (inr j) old new = subst (λ b. HasText (text_in x) (cond b (folded_from last ys) (y ∷ folded_from (Some (text_in y)) ys))
        ⊎ (last ≡ Some (text_in x))) (sym e) (old j)
    by false e (inl h) old new = subst (λ b. HasText (text_in x) (cond b (folded_from last ys) (y ∷ folded_from (Some (text_in y)) ys))
        ⊎ (last ≡ Some (text_in x))) (sym e) (inl (y, inl refl, ap text_in (sym h)))
    by false e (inr j) old new = subst (λ b. HasText (text_in x) (cond b (folded_from last ys) (y ∷ folded_from (Some (text_in y)) ys))
        ⊎ (last ≡ Some (text_in x))) (sym e) (later (new j))

module _ (q : List ℕ) (z : Objects) where
  abbrev all : List PageEntry
  all = listed q true [] z

  -- the keys below the prefix, as entries
  abbrev flat : List PageEntry
  flat = map (entry_of q true) (filter (λ (e : Entry). begins q e.0) (fin.entries z))

  abbrev after : List ℕ → PageEntry → Bool
  after mark x = is_lt (text_cmp mark (text_in x))

  -- each listed entry is that of a child
  pub record Shown (x : PageEntry) : Type 0 where
    pub child : DirEntry
    pub entry : x ≡ entry_from q child
    pub is_child : IsChild q z child

  shown_key : (k : List ℕ) (o : Object) → begins q k ≡ true → fin.get z k ≡ Some o → Shown (entry_of q true (k, o))
  shown_key k o b g = by (rest_after q k b).0 (rest_after q k b).1 (cut (rest_after q k b).0)
    where
      by : (r : List ℕ) → k ≡ q ++ r → Cut r → Shown (entry_of q true (k, o))
      by r e (inl n) = record {
        child = child_at r (File (length o.bytes));
        entry = ap (λ s. entry_by s k (length o.bytes)) (ap (stem q) e ∙ stem_at q r n) ∙ ap (λ k. Single k (length o.bytes)) e;
        is_child = record { plain = n; stands = (o, ap (fin.get z) (sym e) ∙ g, refl) };
      }
      by r e (inr c) = record {
        child = child_at c.0 Directory;
        entry = ap (λ s. entry_by s k (length o.bytes)) (ap (stem q) (e ∙ ap (λ r. q ++ r) c.2) ∙ stem_one q c.0 c.1 c.3);
        is_child = record { plain = c.3; stands = (c.1, o, ap (fin.get z) (sym (e ∙ ap (λ r. q ++ r) c.2)) ∙ g) };
      }

  pub shown_in : (mark : List ℕ) (x : PageEntry) → IsIn x (listed q true mark z) → Shown x
  shown_in mark x i =
      let b = (in_filter (after mark) x flat (folded_sub None (filter (after mark) flat) x i)).0 in
      let c = in_map (entry_of q true) x (filter (λ (e : Entry). begins q e.0) (fin.entries z)) b in
      let d = in_filter (λ (e : Entry). begins q e.0) c.0 (fin.entries z) c.1 in
      let g : fin.get z c.0.0 ≡ Some c.0.1 = fin.get-entries z c.0.0 ∙ found_at (fin.entries z) c.0 (map_sorted text_cmp z) d.0 in
      subst Shown (sym c.2) (shown_key c.0.0 c.0.1 d.1 g)

  -- something exists below the prefix
  child_stands : (n : List ℕ) (s : Status) → Standing q z n s → SomeBelow z q
  child_stands n Directory h = (q ++ (n ++ 47 ∷ h.0), begins_more q (n ++ 47 ∷ h.0), h.1, h.2)
  child_stands n (File l) h = (q ++ n, begins_more q n, h.0, h.1)

  pub some_listed : (mark : List ℕ) (x : PageEntry) (xs : List PageEntry) → listed q true mark z ≡ x ∷ xs → SomeBelow z q
  some_listed mark x xs e = let s = shown_in mark x (subst (IsIn x) (sym e) (inl refl)) in child_stands s.child.name s.child.status
      s.is_child.stands

  -- each existing key has an entry of its text
  pub has_text : (k : List ℕ) (o : Object) → fin.get z k ≡ Some o → begins q k ≡ true
      → lt text_cmp [] (text_in (entry_of q true (k, o))) ≡ true → HasText (text_in (entry_of q true (k, o))) all
  has_text k o g b l =
      let a = filter_in (λ (e : Entry). begins q e.0) (k, o) (fin.entries z) (found_in (fin.entries z) k o (sym (fin.get-entries z k) ∙ g))
      b in
      let c = map_in (entry_of q true) (k, o) (filter (λ (e : Entry). begins q e.0) (fin.entries z)) a in
      elim (folded_all None (filter (after []) flat) (entry_of q true (k, o)) (filter_in (after []) (entry_of q true (k, o)) flat c l)) [
        | inl h ↦ h
        | inr e ↦ absurd (none_some refl e)
      ]

  -- ---- the children in order

  rises_walked : (last : List ℕ) (es : List Entry) → RisesFrom last (map text_in (walked q true last es))
  rises_walked last [] = tt
  rises_walked last (e ∷ es) = by (begins q e.0) (lt text_cmp last (walked_text q true e.0)) refl (rises_walked last es)
      (rises_walked (walked_text q true e.0) es)
    where
      by : (b c : Bool) → lt text_cmp last (walked_text q true e.0) ≡ c → RisesFrom last (map text_in (walked q true last es))
          → RisesFrom (walked_text q true e.0) (map text_in (walked q true (walked_text q true e.0) es))
          → RisesFrom last (map text_in (cond (b && c) (entry_of q true e ∷ walked q true (walked_text q true e.0) es)
          (walked q true last es)))
      by b c h g e = grind arith

  pub listed_rises : (mark : List ℕ) → RisesFrom mark (map text_in (listed q true mark z))
  listed_rises mark = subst (λ xs. RisesFrom mark (map text_in xs)) (walked_listed q true mark z) (rises_walked mark (fin.entries z))

  -- entries that are those of children
  pub record AreShown (xs : List PageEntry) : Type 0 where
    pub children : List DirEntry
    pub entries : xs ≡ map (entry_from q) children
    pub are : (d : DirEntry) → IsIn d children → IsChild q z d

  pub are_shown : (xs : List PageEntry) → ((x : PageEntry) → IsIn x xs → Shown x) → AreShown xs
  are_shown [] h = record { children = []; entries = refl; are = λ d i. absurd i }
  are_shown (x ∷ xs) h =
      let s = h x (inl refl) in
      let r = are_shown xs (λ y i. h y (inr i)) in
      record {
        children = s.child ∷ r.children;
        entries = (λ i. s.entry i ∷ r.entries i);
        are = λ d i. elim i [ inl e ↦ subst (IsChild q z) (sym e) s.is_child | inr j ↦ r.are d j ];
      }

  -- ---- each existing child is among them

  module _ (ds : List DirEntry) (entries : all ≡ map (entry_from q) ds) (are : (d : DirEntry) → IsIn d ds → IsChild q z d) where
    entry_in : (t : List ℕ) → HasText t all → (d : DirEntry) × IsIn d ds × (q ++ text_by d.name d.status ≡ t)
    entry_in t h = grind (arith, in_map, text_at)

    file_is : (n : List ℕ) (o : Object) (d : DirEntry) → fin.get z (q ++ n) ≡ Some o → NoSlash n → IsIn d ds
        → q ++ text_by d.name d.status ≡ q ++ n → IsIn (child_at n (File (length o.bytes))) ds
    file_is n o d g s i e = by d.status refl (append_cancel_left q (text_by d.name d.status) n e) (are d i).stands
      where
        by : (k : Status) → d.status ≡ k → text_by d.name k ≡ n → Standing q z d.name k → IsIn (child_at n (File (length o.bytes))) ds
        by Directory f m h = absurd (slashed d.name n s (sym m))
        by (File l) f m h =
            let same : h.0 ≡ o = some_is (sym h.1 ∙ ap (λ n. fin.get z (q ++ n)) m ∙ g) in
            let size : l ≡ length o.bytes = sym h.2 ∙ ap (λ (o : Object). length o.bytes) same in
            subst (λ d. IsIn d ds) ((λ j. child_at (d.name) (f j)) ∙ (λ j. child_at (m j) (File (size j)))) i

    pub file_listed : (n : List ℕ) (o : Object) → fin.get z (q ++ n) ≡ Some o → NoSlash n → lt text_cmp [] (q ++ n) ≡ true
        → IsIn (child_at n (File (length o.bytes))) ds
    file_listed n o g s l =
        let t : text_in (entry_of q true (q ++ n, o)) ≡ q ++ n = ap (λ s. text_in (entry_by s (q ++ n) (length o.bytes))) (stem_at q n s) in
        let w = entry_in (text_in (entry_of q true (q ++ n, o))) (has_text (q ++ n) o g (begins_more q n) (ap (lt text_cmp []) t ∙ l)) in
        file_is n o w.0 g s w.1 (w.2 ∙ t)

    dir_is : (n : List ℕ) (d : DirEntry) → NoSlash n → IsIn d ds → q ++ text_by d.name d.status ≡ (q ++ n) ++ 47 ∷ []
        → IsIn (child_at n Directory) ds
    dir_is n d s i e = by d.status refl (append_cancel_left q (text_by d.name d.status) (n ++ 47 ∷ []) (e ∙ append_assoc q n (47 ∷ [])))
      where
        by : (k : Status) → d.status ≡ k → text_by d.name k ≡ n ++ 47 ∷ [] → IsIn (child_at n Directory) ds
        by Directory f m = subst (λ d. IsIn d ds) ((λ j. child_at d.name (f j)) ∙
            (λ j. child_at (append_cancel_right d.name n (47 ∷ []) m j) Directory)) i
        by (File l) f m = absurd (slashed n d.name (are d i).plain m)

    pub dir_listed : (n w : List ℕ) (o : Object) → fin.get z (q ++ (n ++ 47 ∷ w)) ≡ Some o → NoSlash n → IsIn (child_at n Directory) ds
    dir_listed n w o g s =
        let t : text_in (entry_of q true (q ++ (n ++ 47 ∷ w), o)) ≡ (q ++ n) ++ 47 ∷ [] = ap
        (λ s. text_in (entry_by s (q ++ (n ++ 47 ∷ w)) (length o.bytes))) (stem_one q n w s) in
        let h = has_text (q ++ (n ++ 47 ∷ w)) o g (begins_more q (n ++ 47 ∷ w)) (ap (lt text_cmp []) t ∙ some_behind (q ++ n) []) in
        let v = entry_in (text_in (entry_of q true (q ++ (n ++ 47 ∷ w), o))) h in
        dir_is n v.0 s v.1 (v.2 ∙ t)

-- If nothing is listed below a prefix, no key is there.
pub none_listed : (x : ℕ) (q : List ℕ) (z : Objects) → listed (x ∷ q) true [] z ≡ [] → NoneBelow z (x ∷ q)
none_listed x q z e k b = by (fin.get z k) refl
  where
    text_some : (s : Option (List ℕ)) (k : List ℕ) (n : ℕ) → begins (x ∷ q) k ≡ true → lt text_cmp [] (text_in (entry_by s k n)) ≡ true
    text_some s k n h = grind (arith, some_behind)

    by : (o : Option Object) → fin.get z k ≡ o → fin.get z k ≡ None
    by None g = g
    by (Some o) g = let h = has_text (x ∷ q) z k o g b (text_some (stem (x ∷ q) k) k (length o.bytes) b) in absurd (subst (IsIn h.0) e h.1)
