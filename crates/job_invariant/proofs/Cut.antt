-- The parts of a file of a script.
use Rattle.text_and_lists.proofs.Members.{nat_true, some_is, text_true}
use Rattle.job_invariant.specs.Facts.{IsHeld}
use Rattle.job_model.specs.Files.{File}
use Rattle.job_model.specs.JobScript.{Script}
use Rattle.job_model.specs.Known.{Drawn}
use Rattle.job_protocol.specs.Uploading.{file_parts}
use Rattle.s3_types.specs.Blocks.{block_of, named_from}
use Rattle.s3_types.specs.Multipart.{bytes_of, has_tag, is_large, is_sent, joined, rises_from, tag_eq}
use Rattle.s3_types.specs.Store.{Parts, Upload}
use Rattle.s3_types.specs.Tags.{Spelled, plain_tag}
use Rattle.s3_types.specs.declared.request.NamedPart.{NamedPart}
use Rattle.std.proofs.Common.{List, Ok, Option, Some, ap, arith, length, map, refl, slice_get, subst, suc, sym, take, true, zero, ℕ, []}
use Rattle.std.proofs.Common.{◌&&◌, ◌++◌, ◌+◌, ◌-◌, ◌<◌, ◌∙◌, ◌∷◌, ◌≡◌, ◌≤◌}
use Rattle.std.proofs.lemmas.Bool.{le-leb, lt-ltb}
use Rattle.std.proofs.lemmas.Option.{slice_get_within}
use Rattle.std.specs.List.{flat_map, list_all}
use Rattle.s3_types.proofs.Blocks as blocks
use Rattle.std.specs.FinMap as fin

module _ (w : Script) (minimum : ℕ) (f : File) where
  abbrev size_of : ℕ
  size_of = block_of (length f.1) w.block minimum

  some_size : 1 ≤ size_of
  some_size = blocks.some_size (length f.1) w.block minimum

  pub parts_some : 1 ≤ length (file_parts w minimum f)
  parts_some = blocks.some_parts size_of f.1

  pub parts_few : length (file_parts w minimum f) ≤ 10000
  parts_few = blocks.few_parts w.block minimum f.1

  pub parts_joined : flat_map (λ b. b) (file_parts w minimum f) ≡ f.1
  parts_joined = blocks.parts_joined size_of f.1 some_size

  pub parts_large : (i : ℕ) (b : List ℕ) → slice_get (file_parts w minimum f) i ≡ Some b → suc i < length (file_parts w minimum f)
      → minimum ≤ length b
  parts_large i b e h = subst (λ n. minimum ≤ n) (sym (blocks.whole_part size_of f.1 b i some_size e h))
      (blocks.large_size (length f.1) w.block minimum)

-- ---- the parts of a file's upload, joined by a completion, are the file's bytes

-- The parts with numbers from n on have these bytes.
abbrev Match : Parts → ℕ → List (List ℕ) → Type 0
Match m n [] = Unit {0}
Match m n (b ∷ bs) = (fin.get m n ≡ Some b) × Match m (n + 1) bs

-- The parts in a completion, named by their tags.
abbrev named : ℕ → List (List ℕ) → List NamedPart
named n bs = named_from n (map plain_tag bs)

same_tag : (t : Spelled) → tag_eq t t ≡ true
same_tag t = rw (text_true t.digits t.digits refl, nat_true t.parts t.parts refl) refl

all_sent : (m : Parts) (n : ℕ) (bs : List (List ℕ)) → Match m n bs → list_all (is_sent m) (named n bs) ≡ true
all_sent m n [] h = refl
all_sent m n (b ∷ bs) h =
    let t = plain_tag b in
    ap (λ x. x && list_all (is_sent m) (named (n + 1) bs)) (ap (has_tag t) h.0 ∙ same_tag t) ∙ all_sent m (n + 1) bs h.1

all_rise : (n : ℕ) (ts : List Spelled) → rises_from n (named_from (n + 1) ts) ≡ true
all_rise n [] = refl
all_rise n (t ∷ ts) = ap (λ x. x && rises_from (n + 1) (named_from (n + 1 + 1) ts)) (lt-ltb n (n + 1) (omega arith)) ∙ all_rise (n + 1) ts

all_joined : (m : Parts) (n : ℕ) (bs : List (List ℕ)) → Match m n bs → flat_map (bytes_of m) (named n bs) ≡ flat_map (λ b. b) bs
all_joined m n [] h = refl
all_joined m n (b ∷ bs) h =
    let first : bytes_of m (record { number = n; tag = plain_tag b }) ≡ b = rw h.0 refl in
    ap (λ x. x ++ flat_map (bytes_of m) (named (n + 1) bs)) first ∙ ap (λ l. b ++ l) (all_joined m (n + 1) bs h.1)

-- All parts but the last have the least size.
abbrev AllLarge : ℕ → List (List ℕ) → Type 0
AllLarge minimum (b ∷ c ∷ bs) = (minimum ≤ length b) × AllLarge minimum (c ∷ bs)
AllLarge minimum _ = Unit {0}

from_places : (minimum : ℕ) (bs : List (List ℕ)) → ((i : ℕ) (b : List ℕ) → slice_get bs i ≡ Some b → suc i < length bs → minimum ≤ length b)
    → AllLarge minimum bs
from_places minimum (b ∷ c ∷ bs) h = (h zero b refl (omega arith), from_places minimum (c ∷ bs) (λ i x e l. h (suc i) x e (omega arith)))
from_places minimum _ h = tt

but_last : (ns : List NamedPart) (x : NamedPart) → length (x ∷ ns) - 1 ≡ length ns
but_last ns x = omega arith

all_large : (m : Parts) (minimum n : ℕ) (bs : List (List ℕ)) → Match m n bs → AllLarge minimum bs
    → list_all (is_large m minimum) (take (length (named n bs) - 1) (named n bs)) ≡ true
all_large m minimum n [] h l = refl
all_large m minimum n (b ∷ []) h l = ap (λ i. list_all (is_large m minimum) (take i (named n (b ∷ []))))
    (but_last [] (record { number = n; tag = plain_tag b }))
all_large m minimum n (b ∷ c ∷ bs) h l =
    let first : is_large m minimum (record { number = n; tag = plain_tag b }) ≡ true = rw h.0 (le-leb minimum (length b) l.0) in
    let less : length (named n (b ∷ c ∷ bs)) - 1 ≡ suc (length (named (n + 1) (c ∷ bs)) - 1) = omega arith in
    ap (λ i. list_all (is_large m minimum) (take i (named n (b ∷ c ∷ bs)))) less
    ∙ ap (λ x. x && list_all (is_large m minimum) (take (length (named (n + 1) (c ∷ bs)) - 1) (named (n + 1) (c ∷ bs)))) first
    ∙ all_large m minimum (n + 1) (c ∷ bs) h.1 l.1

from_there : (m : Parts) (n : ℕ) (bs : List (List ℕ)) → ((i : ℕ) (b : List ℕ) → slice_get bs i ≡ Some b → fin.get m (n + i) ≡ Some b)
    → Match m n bs
from_there m n [] h = tt
from_there m n (b ∷ bs) h =
    let at : n + zero ≡ n = omega arith in (
      ap (fin.get m) (sym at) ∙ h zero b refl,
      from_there m (n + 1) bs (λ i x e. let there : n + 1 + i ≡ n + suc i = omega arith in ap
          (fin.get m) there ∙ h (suc i) x e),
    )

-- If an upload is held and the tags of all its parts came back, its parts are joined to its file.
pub held_joined : (w : Script) (minimum : ℕ) (uploads : ℕ → Option Upload) (d : Drawn) (f : File) → (h : IsHeld w minimum uploads d f)
    → d.tags ≡ map plain_tag (file_parts w minimum f) → length d.tags ≡ length (file_parts w minimum f)
    → joined (Some (record { key = d.key; parts = h.parts })) (named_from 1 d.tags) minimum ≡ Ok f.1
held_joined w minimum uploads d f h tags all = ap (λ ts. joined (Some (record { key = d.key; parts = h.parts })) (named_from 1 ts) minimum)
    tags ∙ by (file_parts w minimum f) refl
  where
    there : (i : ℕ) (b : List ℕ) → slice_get (file_parts w minimum f) i ≡ Some b → fin.get h.parts (1 + i) ≡ Some b
    there i b e =
        let low : i < length (file_parts w minimum f) = slice_get_within _ _ _ e in
        let x = h.back i (omega arith) in
        let at = h.blocks (suc i) x.0 x.1 in
        let same : at.0 ≡ i = omega (arith, at.1) in
        let is : x.0 ≡ b = some_is (sym at.2 ∙ ap (slice_get (file_parts w minimum f)) same ∙ e) in
        let next : 1 + i ≡ suc i = omega arith in
        ap (fin.get h.parts) next ∙ x.1 ∙ ap (λ y. Some y) is

    by : (bs : List (List ℕ)) → bs ≡ file_parts w minimum f
        → joined (Some (record { key = d.key; parts = h.parts })) (named 1 bs) minimum ≡ Ok f.1
    by [] e = let some = parts_some w minimum f in let none : 0 ≡ length (file_parts w minimum f) = ap length e in absurd (omega arith)
    by (b ∷ bs) e =
        let m : Match h.parts 1 (b ∷ bs) = subst (Match h.parts 1) (sym e) (from_there h.parts 1 (file_parts w minimum f) there) in
        let large : AllLarge minimum (b ∷ bs) = subst (AllLarge minimum) (sym e)
        (from_places minimum (file_parts w minimum f) (parts_large w minimum f)) in
        rw (all_rise 1 (map plain_tag bs), all_sent h.parts 1 (b ∷ bs) m, all_large h.parts minimum 1 (b ∷ bs) m large)
        (ap (λ x. Ok x) (all_joined h.parts 1 (b ∷ bs) m ∙ ap (flat_map (λ c. c)) e ∙ parts_joined w minimum f))
