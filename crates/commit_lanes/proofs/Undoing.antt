-- The list of a revert, built from its end.
use Rattle.commit_lanes.proofs.Trying.{in_at}
use Rattle.commit_lanes.specs.Undos.{IsRevert, NumbersWithin, number_in, undo_request}
use Rattle.commit_lanes.specs.inner.Undos.{Adds, with_tried, with_unsent}
use Rattle.commit_lanes.specs.declared.undo.Undo.{Undo}
use Rattle.commit_lanes.specs.declared.undo.Undo.TheVariants.{Abort, Delete}
use Rattle.job_protocol.proofs.Members.{in_left, in_right}
use Rattle.job_protocol.specs.LaneTable.{In}
use Rattle.job_protocol.specs.Lanes.{Turn, abort, chosen, deletion, in_turn, is_in, is_tried, is_unsent, nth, undo}
use Rattle.pending_json.specs.Pending.{Pending}
use Rattle.s3_types.specs.declared.request.Request.{Request}
use Rattle.std.proofs.Common.{Bool, List, ap, append-nil, arith, cond, drop, false, get_or, inl, inr, length, map, nat_eq, not, refl}
use Rattle.std.proofs.Common.{reverse, subst, suc, sym, true, zero, ℕ, [], ◌++◌, ◌+◌, ◌<◌, ◌||◌, ◌∙◌, ◌∷◌, ◌≡◌}
use Rattle.std.proofs.Math.ListN.{drop_of_length-le}
use Rattle.std.proofs.Math.Seq.{drop-cons}
use Rattle.std.proofs.lemmas.List.{reverse-append}

-- ---- the steps added from number n on

-- The requests of the uploads that a test chooses.
abbrev pub chosen_part : (List Pending → List Request) → (ℕ → Bool) → ℕ → List Pending → List Request
chosen_part w test n all = w (chosen test n (drop n all))

abbrev pub tried_part : List Turn → ℕ → List Pending → List Request
tried_part xs n all = chosen_part undo (is_tried xs) n all

abbrev pub unsent_part : ℕ → List Turn → List ℕ → ℕ → List Pending → List Request
unsent_part worn xs finished n all = chosen_part (map abort) (is_unsent worn xs finished) n all

abbrev pub done_part : List ℕ → ℕ → List Pending → List Request
done_part finished n all = map deletion (map (nth all) (drop n finished))

pub drop_nth : (all : List Pending) (n : ℕ) → n < length all → drop n all ≡ nth all n ∷ drop (n + 1) all
drop_nth [] n h = absurd (omega arith)
drop_nth (p ∷ ps) zero h = refl
drop_nth (p ∷ ps) (suc n) h = drop_nth ps n (omega arith) ∙ (let e : suc n + 1 ≡ suc (n + 1) = omega arith in ap
    (λ m. nth ps n ∷ drop m (p ∷ ps)) (sym e))

chosen_at : (test : ℕ → Bool) (all : List Pending) (n : ℕ) (b : Bool) → n < length all → test n ≡ b
    → chosen test n (drop n all) ≡ cond b (nth all n ∷ chosen test (n + 1) (drop (n + 1) all)) (chosen test (n + 1) (drop (n + 1) all))
chosen_at test all n b h t =
    ap (chosen test n) (drop_nth all n h) ∙ ap (λ c. cond c (nth all n ∷ chosen test (n + 1) (drop (n + 1) all))
    (chosen test (n + 1) (drop (n + 1) all))) t

none_left : (all : List Pending) (total : ℕ) → length all ≡ total → drop total all ≡ []
none_left all total e = drop_of_length-le all {i = total} (omega arith)

-- ---- the uploads that a test chooses

module _ (w : List Pending → List Request) (test : ℕ → Bool) (total : ℕ) where
  pub adds_begin : (l : List Undo) → [] ≡ w [] → Adds total (chosen_part w test total) l l
  adds_begin l z = λ all e. ap (λ v. v ++ map (undo_request all) l) z ∙ ap (λ v. w (chosen test total v) ++ map (undo_request all) l)
      (sym (none_left all total e))

  -- One more upload, if the test chooses it.
  adds_turn : (n m : ℕ) (old new last : List Undo) (put : Bool → List Undo) (b : Bool) → n < total → m ≡ n + 1 → test n ≡ b → last ≡ put b
      → put false ≡ new
      → ((all ps : List Pending) → map (undo_request all) new ≡ w ps ++ map (undo_request all) old
      → map (undo_request all) (put true) ≡ w (nth all n ∷ ps) ++ map (undo_request all) old)
      → Adds total (chosen_part w test m) old new → Adds total (chosen_part w test n) old last
  adds_turn n m old new last put b h i t is same more a = λ all e.
      let rest : List Pending = chosen test (n + 1) (drop (n + 1) all) in
      let k : map (undo_request all) new ≡ w rest ++ map (undo_request all) old = a all e ∙ ap
      (λ x. w (chosen test x (drop x all)) ++ map (undo_request all) old) i in
      ap (map (undo_request all)) is
      ∙ (elim b as (λ c. map (undo_request all) (put c) ≡ w (cond c (nth all n ∷ rest) rest) ++ map (undo_request all) old)
      [ true ↦ more all rest k | false ↦ ap (map (undo_request all)) same ∙ k ])
      ∙ ap (λ v. w v ++ map (undo_request all) old) (sym (chosen_at test all n b (omega arith) t))

  pub adds_end : (n : ℕ) (old new : List Undo) → n ≡ 0 → Adds total (chosen_part w test n) old new
      → Adds total (λ all. w (chosen test 0 all)) old new
  adds_end n old new z a = λ all e. a all e ∙ ap (λ k. w (chosen test k (drop k all)) ++ map (undo_request all) old) z

-- One more upload, if its completion was sent and got no answer.
pub tried_turn : (total : ℕ) (xs : List Turn) (n m : ℕ) (old new last : List Undo) → n < total → m ≡ n + 1
    → last ≡ with_tried (is_tried xs n) n new → Adds total (tried_part xs m) old new → Adds total (tried_part xs n) old last
tried_turn total xs n m old new last h i e a =
    adds_turn undo (is_tried xs) total n m old new last (λ b. with_tried b n new) (is_tried xs n) h i refl e refl
    (λ all ps k. ap (λ v. abort (nth all n) ∷ deletion (nth all n) ∷ v) k) a

-- One more upload, if its completion was never sent; three tests decide `sent`.
pub unsent_turn : (total worn : ℕ) (xs : List Turn) (f : List ℕ) (n m : ℕ) (old new last : List Undo) (sent : Bool) → n < total → m ≡ n + 1
    → sent ≡ (nat_eq n worn || (is_tried xs n || is_in f n)) → last ≡ with_unsent sent n new → Adds total (unsent_part worn xs f m) old new
    → Adds total (unsent_part worn xs f n) old last
unsent_turn total worn xs f n m old new last sent h i s e a =
    let same : with_unsent sent n new ≡ cond (not sent) (Abort n ∷ new) new = elim sent as
    (λ b. with_unsent b n new ≡ cond (not b) (Abort n ∷ new) new)
    [ true ↦ refl | false ↦ refl ] in
    adds_turn (map abort) (is_unsent worn xs f) total n m old new last (λ b. cond b (Abort n ∷ new) new) (not sent) h i (ap not (sym s))
    (e ∙ same) refl
    (λ all ps k. ap (λ v. abort (nth all n) ∷ v) k) a

-- ---- completed uploads

pub done_begin : (total : ℕ) (f : List ℕ) (n : ℕ) (l : List Undo) → n ≡ length f → Adds total (done_part f n) l l
done_begin total f n l h = λ all e. ap (λ v. map deletion (map (nth all) v) ++ map (undo_request all) l)
    (sym (drop_of_length-le f {i = n} (omega arith)))

in_turn_last : (all : List Pending) (ys : List ℕ) (x : ℕ) → in_turn all (ys ++ x ∷ []) ≡ nth all x ∷ in_turn all ys
in_turn_last all [] x = refl
in_turn_last all (y ∷ ys) x = ap (λ v. v ++ nth all y ∷ []) (in_turn_last all ys x)

in_turn_back : (all : List Pending) (xs : List ℕ) → in_turn all (reverse xs) ≡ map (nth all) xs
in_turn_back all [] = refl
in_turn_back all (x ∷ xs) = ap (in_turn all) (reverse-append (x ∷ []) xs) ∙ in_turn_last all (reverse xs) x ∙ ap (λ v. nth all x ∷ v)
    (in_turn_back all xs)

pub done_end : (total : ℕ) (f : List ℕ) (n : ℕ) (old new : List Undo) → n ≡ 0 → Adds total (done_part f n) old new
    → Adds total (λ all. map deletion (in_turn all (reverse f))) old new
done_end total f n old new z a = λ all e. a all e ∙ ap (λ k. map deletion (map (nth all) (drop k f)) ++ map (undo_request all) old) z ∙ ap
    (λ v. map deletion v ++ map (undo_request all) old) (sym (in_turn_back all f))

-- ---- one turn of each loop

number_below : (total : ℕ) (u : List Undo) (x : Undo) → number_in x < total → NumbersWithin total u → NumbersWithin total (x ∷ u)
number_below total u x h w = λ y i. elim i [ inl e ↦ let P : Undo → Type 0 = λ v. number_in v < total in subst P e h | inr k ↦ w y k ]

pub tried_below : (total n : ℕ) (new last : List Undo) (b : Bool) → n < total → last ≡ with_tried b n new → NumbersWithin total new
    → NumbersWithin total last
tried_below total n new last b h g e = grind arith

pub unsent_below : (total n : ℕ) (new last : List Undo) (b : Bool) → n < total → last ≡ with_unsent b n new → NumbersWithin total new
    → NumbersWithin total last
unsent_below total n new last b h g e = grind arith

get_any : (f : List ℕ) (n d e : ℕ) → n < length f → get_or f n d ≡ get_or f n e
get_any [] n d e h = absurd (omega arith)
get_any (x ∷ xs) zero d e h = refl
get_any (x ∷ xs) (suc n) d e h = get_any xs n d e (omega arith)

pub done_turn : (total : ℕ) (f : List ℕ) (n m x : ℕ) (old new last : List Undo) → n < length f → m ≡ n + 1 → x ≡ get_or f n x
    → last ≡ Delete x ∷ new → Adds total (done_part f m) old new → Adds total (done_part f n) old last
done_turn total f n m x old new last h i at e a = λ all t.
    let s : m ≡ suc n = omega arith in
    ap (map (undo_request all)) e
    ∙ ap (λ v. deletion (nth all x) ∷ v) (a all t)
    ∙ ap (λ k. deletion (nth all x) ∷ (map deletion (map (nth all) (drop k f)) ++ map (undo_request all) old)) s
    ∙ ap (λ y. deletion (nth all y) ∷ (map deletion (map (nth all) (drop (suc n) f)) ++ map (undo_request all) old))
    (at ∙ get_any f n x 0 h)
    ∙ ap (λ v. map deletion (map (nth all) v) ++ map (undo_request all) old) (sym (drop-cons f n 0 h))

pub done_below : (total x : ℕ) (new last : List Undo) → x < total → last ≡ Delete x ∷ new → NumbersWithin total new
    → NumbersWithin total last
done_below total x new last h e w = let P : List Undo
    → Type 0 = λ v. NumbersWithin total v in subst P (sym e) (number_below total new (Delete x) h w)

pub finished_below : (total : ℕ) (f : List ℕ) (n x : ℕ) → ((k : ℕ) → In k f → k < total) → n < length f → x ≡ get_or f n x → x < total
finished_below total f n x all h at = let P : ℕ → Type 0 = λ v. In v f in all x (subst P (sym at) (in_at f n x h))

-- ---- the whole list

pub in_back : (x : ℕ) (xs : List ℕ) → In x xs → In x (reverse xs)
in_back x [] h = h
in_back x (z ∷ xs) h =
    let P : List ℕ → Type 0 = λ v. In x v in
    subst P (sym (reverse-append (z ∷ []) xs)) (elim h [
      | inl e ↦ in_right x (reverse xs) (z ∷ []) (inl e)
      | inr i ↦ in_left x (reverse xs)
          (z ∷ []) (in_back x xs i)
    ])

pub all_within : (total worn : ℕ) (l a b c d e : List Undo) → worn < total → l ≡ [] → (NumbersWithin total l → NumbersWithin total a)
    → (NumbersWithin total a → NumbersWithin total b) → (NumbersWithin total b → NumbersWithin total c) → d ≡ Delete worn ∷ c
    → e ≡ Abort worn ∷ d → NumbersWithin total e
all_within total worn l a b c d e h none x y z f g =
    let P : List Undo → Type 0 = λ v. NumbersWithin total v in
    subst P (sym g) (number_below total d (Abort worn) h (subst P (sym f)
    (number_below total c (Delete worn) h (z (y (x (subst P (sym none) (λ v i. absurd i))))))))

pub all_reverted : (total worn : ℕ) (xs : List Turn) (finished raw : List ℕ) (l a b c d e : List Undo) → reverse raw ≡ finished → l ≡ []
    → Adds total (λ all. map abort (chosen (is_unsent worn xs finished) 0 all)) l a
    → Adds total (λ all. map deletion (in_turn all (reverse raw))) a b → Adds total (λ all. undo (chosen (is_tried xs) 0 all)) b c
    → d ≡ Delete worn ∷ c → e ≡ Abort worn ∷ d
    → IsRevert total worn xs finished e
all_reverted total worn xs finished raw l a b c d e back none x y z f g =
    let L : List Undo → Type 0 = λ v. Adds total (λ all. map abort (chosen (is_unsent worn xs finished) 0 all)) v a in
    let F : List ℕ → Type 0 = λ v. Adds total (λ all. map deletion (in_turn all v)) a b in
    λ all t.
    ap (map (undo_request all)) (g ∙ ap (λ v. Abort worn ∷ v) f)
    ∙ ap (λ v. abort (nth all worn) ∷ deletion (nth all worn) ∷ v) (z all t
    ∙ ap (λ v. undo (chosen (is_tried xs) 0 all) ++ v)
    (subst F back y all t ∙ ap (λ v. map deletion (in_turn all finished) ++ v)
    (subst L none x all t ∙ append-nil (map abort (chosen (is_unsent worn xs finished) 0 all)))))
