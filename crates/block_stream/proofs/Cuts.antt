-- What a stream's blocks show of the pending bytes.
use Rattle.text_and_lists.proofs.Naturals.{above_so, at_most_so}
use Rattle.block_stream.proofs.FillingLaws.{AtStage, at_stage}
use Rattle.block_stream.specs.Kept.{seen}
use Rattle.block_stream.specs.inner.Kept.{IsCutUp, first_of, is_due, is_short, is_whole, next_at, settles, stage_by}
use Rattle.block_stream.specs.Stream.{Stream, asks_with, begin_or_wait, complete_or_wait, ended, has_part, has_some, is_direct, is_settled}
use Rattle.block_stream.specs.Stream.{is_small, settled, stage_of, wanted}
use Rattle.block_stream.specs.declared.mode.StreamEnd.{StreamEnd}
use Rattle.block_stream.specs.declared.mode.StreamEnd.TheVariants.{Done}
use Rattle.block_stream.specs.declared.mode.StreamMode.{StreamMode}
use Rattle.block_stream.specs.declared.stage.StreamStage.{StreamStage}
use Rattle.block_stream.specs.declared.stage.StreamStage.TheVariants.{Completing, Over, Putting, Sending, Waiting}
use Rattle.s3_types.specs.Tags.{Spelled}
use Rattle.std.proofs.Common.{ap, append_assoc, arith, length-append, refl, subst, sym, ◌∙◌}
use Rattle.std.proofs.Math.Seq.{drop-append_seam}
use Rattle.std.proofs.lemmas.Bool.Decides.{nat_tests}
use Rattle.std.proofs.lemmas.List.{append-nil, drop_all, take-append-le, take_all}
use Rattle.std.specs.List.{concat}
use Rattle.std.specs.Option.{unwrap_or}
use Rattle.std.specs.Prelude.{Bool, List, None, Option, Some, cond, drop, false, length, nat_le, nat_lt, not, take, true, ℕ, [], ◌&&◌, ◌++◌}
use Rattle.std.specs.Prelude.{◌+◌, ◌<◌, ◌||◌, ◌∷◌, ◌≡◌, ◌≤◌}

-- Bytes that begin with a whole block.
begins_whole : (n : ℕ) (b bs : List ℕ) → length b ≡ n → nat_le n (length (b ++ bs)) ≡ nat_le n (length b)
begins_whole n b bs e =
    let k : length (b ++ bs) ≡ length b + length bs = length-append b bs in
    at_most_so n (length (b ++ bs)) (omega (arith, k, e)) ∙ sym (at_most_so n (length b) (omega (arith, e)))

-- A whole block is pending exactly if the first block is whole.
pub whole_is : (n : ℕ) (closed : Bool) (q : List (List ℕ)) (r : List ℕ) → 1 ≤ n → IsCutUp n closed q r
    → is_whole n q ≡ nat_le n (length (concat q ++ r))
whole_is n false [] r l h = sym (above_so n (length r) h.1)
whole_is n false (b ∷ bs) r l h = sym (ap (λ x. nat_le n (length x)) (append_assoc b (concat bs) r) ∙ begins_whole n b (concat bs ++ r)
    h.0.0)
whole_is n true [] r l h = let z : 0 < n = omega arith in sym (ap (λ (x : List ℕ). nat_le n (length x)) h.1 ∙ above_so n 0 z)
whole_is n true (b ∷ []) r l h = sym (ap (λ x. nat_le n (length x)) (append_assoc b [] r ∙ ap (λ x. b ++ x) h.1 ∙ append-nil b))
whole_is n true (b ∷ c ∷ bs) r l h = sym (ap (λ x. nat_le n (length x)) (append_assoc b (concat (c ∷ bs)) r) ∙ begins_whole n b
    (concat (c ∷ bs) ++ r) h.0.0)

some_front : (b bs : List ℕ) → 0 < length b → true ≡ has_some (b ++ bs)
some_front [] bs h = let no : ⊥ = omega arith in absurd no
some_front (x ∷ b) bs h = refl

pub some_is : (n : ℕ) (q : List (List ℕ)) (r : List ℕ) → 1 ≤ n → IsCutUp n true q r → has_some q ≡ has_some (concat q ++ r)
some_is n [] r l h = ap has_some (sym h.1)
some_is n (b ∷ []) r l h = some_front b ([] ++ r) h.0.0 ∙ ap has_some (sym (append_assoc b [] r))
some_is n (b ∷ c ∷ bs) r l h = let k : 0 < length b = omega (arith, h.0.0) in some_front b (concat (c ∷ bs) ++ r) k ∙ ap has_some
    (sym (append_assoc b (concat (c ∷ bs)) r))

take_front : (n : ℕ) (b bs : List ℕ) → length b ≡ n → b ≡ take n (b ++ bs)
take_front n b bs e = sym (take-append-le n b bs (omega (arith, e)) ∙ take_all n b (omega (arith, e)))

-- The next part is the first block.
pub first_is : (n : ℕ) (closed : Bool) (q : List (List ℕ)) (r : List ℕ) → IsCutUp n closed q r → (closed ≡ false → is_whole n q ≡ true)
    → first_of q ≡ take n (concat q ++ r)
first_is n false [] r h w = let e : false ≡ true = w refl in absurd (cc)
first_is n false (b ∷ bs) r h w = take_front n b (concat bs ++ r) h.0.0 ∙ ap (take n) (sym (append_assoc b (concat bs) r))
first_is n true [] r h w = sym (ap (take n) h.1 ∙ (let l : length {A = ℕ} [] ≤ n = omega arith in take_all n [] l))
first_is n true (b ∷ []) r h w = sym (ap (take n) (append_assoc b [] r ∙ ap (λ x. b ++ x) h.1 ∙ append-nil b) ∙ take_all n b h.0.1)
first_is n true (b ∷ c ∷ bs) r h w = take_front n b (concat (c ∷ bs) ++ r) h.0.0 ∙ ap (take n) (sym (append_assoc b (concat (c ∷ bs)) r))

drop_front : (n : ℕ) (b bs : List ℕ) → length b ≡ n → drop n (b ++ bs) ≡ bs
drop_front n b bs e = ap (λ k. drop k (b ++ bs)) (sym e) ∙ drop-append_seam b bs

-- The pending bytes without the next part.
pub drop_is : (n : ℕ) (closed : Bool) (q : List (List ℕ)) (r : List ℕ) → IsCutUp n closed q r → (closed ≡ false → is_whole n q ≡ true)
    → drop n (concat q ++ r) ≡ concat (drop 1 q) ++ r
drop_is n false [] r h w = let e : false ≡ true = w refl in absurd (cc)
drop_is n false (b ∷ bs) r h w = ap (drop n) (append_assoc b (concat bs) r) ∙ drop_front n b (concat bs ++ r) h.0.0
drop_is n true [] r h w = ap (drop n) h.1 ∙ (let l : length {A = ℕ} [] ≤ n = omega arith in drop_all n [] l) ∙ sym h.1
drop_is n true (b ∷ []) r h w = ap (drop n) (append_assoc b [] r ∙ ap (λ x. b ++ x) h.1 ∙ append-nil b) ∙ drop_all n b h.0.1 ∙ sym h.1
drop_is n true (b ∷ c ∷ bs) r h w = ap (drop n) (append_assoc b (concat (c ∷ bs)) r) ∙ drop_front n b (concat (c ∷ bs) ++ r) h.0.0

-- The blocks without the first are cut in the same way.
pub cut_rest : (n : ℕ) (closed : Bool) (q : List (List ℕ)) (r : List ℕ) → IsCutUp n closed q r → IsCutUp n closed (drop 1 q) r
cut_rest n closed q r h = grind arith

module _ (mode : StreamMode) (bucket key : List ℕ) (n : ℕ) (q : List (List ℕ)) (r : List ℕ) (u : Option ℕ) (tags : List Spelled) (count : ℕ)
  where
    abbrev stream : Bool → Stream
    stream closed = seen mode bucket key n q r u tags count closed None

    pub due_is : (closed : Bool) → 1 ≤ n → IsCutUp n closed q r → is_due n q closed tags ≡ has_part (stream closed)
    due_is false l h = ap (λ b. b || false) (whole_is n false q r l h)
    due_is true l h = ap (λ b. b || (has_some q || not (has_some tags))) (whole_is n true q r l h) ∙ ap
        (λ b. nat_le n (length (concat q ++ r)) || (b || not (has_some tags))) (some_is n q r l h)

    not_le : (a b : ℕ) → not (nat_le a b) ≡ nat_lt b a
    not_le a b = grind (arith, nat_tests)

    pub short_is : (closed : Bool) → 1 ≤ n → IsCutUp n closed q r → is_short mode n q closed ≡ is_small (stream closed)
    short_is closed l h = ap (λ b. is_direct mode && (closed && not b)) (whole_is n closed q r l h) ∙ ap
        (λ b. is_direct mode && (closed && b)) (not_le n (length (concat q ++ r)))

    pub stage_is : (v : Option ℕ) (closed : Bool) → 1 ≤ n → IsCutUp n closed q r
        → stage_by mode n q closed tags v ≡ stage_of None v (stream closed)
    stage_is None closed l h = ap (λ b. cond b Putting (begin_or_wait (is_due n q closed tags))) (short_is closed l h) ∙ ap
        (λ b. cond (is_small (stream closed)) Putting (begin_or_wait b)) (due_is closed l h)
    stage_is (Some id) closed l h = ap (λ b. cond b Sending (complete_or_wait closed)) (due_is closed l h)

    -- no whole block is pending, and the stream is open: it waits
    waits : (v : Option ℕ) → is_whole n q ≡ false → stage_by mode n q false tags v ≡ Waiting
    waits v h = grind arith

    -- the request, from the blocks
    pub asks_is : (closed : Bool) → 1 ≤ n → IsCutUp n closed q r
        → asks_with (stage_by mode n q closed tags u) bucket key (unwrap_or u 0) tags (first_of q) ≡ wanted (stream closed)
    asks_is closed h g = grind (arith, first_is, stage_is, waits)

settles_not : (mode : StreamMode) (g : StreamStage) → (is_direct mode ≡ false → g ≡ Completing → ⊥) → settles mode g ≡ (g, None)
settles_not mode g h = grind arith

settles_now : (mode : StreamMode) (g : StreamStage) → is_direct mode ≡ false → g ≡ Completing → settles mode g ≡ (Over, Some Done)
settles_now mode g h e = grind arith

both : (a b c : Bool) → (a && (not b && not c)) ≡ true → (a ≡ true) × (b ≡ false) × (c ≡ false)
both a b c h = grind arith

-- A closed stream without an answered part has a part to send.
pub first_part : (m : Stream) → m.closed ≡ true → m.tags ≡ [] → has_part m ≡ true
first_part m h g = grind arith

-- The stage of a closed stream that has an upload and no part to send.
completing : (v : Option ℕ) (m : Stream) → m.closed ≡ true → has_part m ≡ false → (v ≡ None → m.tags ≡ []) → stage_of None v m ≡ Completing
completing v m h g e = grind arith

module _ (mode : StreamMode) (bucket key : List ℕ) (n : ℕ) (q : List (List ℕ)) (r : List ℕ) (u : Option ℕ) (tags : List Spelled) (count : ℕ)
    (closed : Bool) where
  abbrev here : Stream
  here = seen mode bucket key n q r u tags count closed None

  -- what the fields stand for and the request, for each outcome of whether the stream has ended
  abbrev IsNext : StreamStage × Option StreamEnd → Stream → Type 0
  IsNext g m = (seen mode bucket key n q r u tags count closed g.1 ≡ m) × ((next_at g bucket key q tags u).0 ≡ wanted m)

  pub next_is : 1 ≤ n → IsCutUp n closed q r → (u ≡ None → tags ≡ [])
      → IsNext (settles mode (stage_by mode n q closed tags u)) (settled here)
  next_is l h t =
      let g = stage_by mode n q closed tags u in
      let e : g ≡ stage_of None u here = stage_is mode bucket key n q r u tags count u closed l h in
      elim (is_settled here) as (λ z. is_settled here ≡ z → IsNext (settles mode g) (cond z (ended here Done) here)) [
        | true ↦ λ z.
            let k = both closed (is_direct mode) (has_part here) z in
            subst (λ x. IsNext x (ended here Done)) (sym (settles_now mode g k.1 (e ∙ completing u here k.0 k.2 t))) (refl, refl)
        | false ↦ λ z.
            subst (λ x. IsNext x here) (sym (settles_not mode g (λ d s.
            let o : AtStage Completing here = subst (λ g. AtStage g here) (sym e ∙ s) (at_stage here) in
            let f : is_settled here ≡ true = ap (λ b. b && (not (is_direct mode) && not (has_part here))) o.3 ∙ ap
            (λ b. not b && not (has_part here)) d ∙ ap not o.2 in
            let y : true ≡ false = sym f ∙ z in
            absurd (cc))))
            (refl, asks_is mode bucket key n q r u tags count closed l h)
      ] refl
