-- One more part of the newest upload.
use Rattle.job_model.specs.Known.{Drawn, Known, with_last}
use Rattle.job_model.specs.declared.known.DrawnPart.{DrawnPart}
use Rattle.s3_types.specs.Tags.{Spelled}
use Rattle.std.proofs.Common.{Bool, Err, List, Ok, Result, ap, arith, false, get_or, length, length-append, map, refl, reverse, suc, sym}
use Rattle.std.proofs.Common.{true, zero, ℕ, [], ◌++◌, ◌+◌, ◌-◌, ◌<◌, ◌∙◌, ◌∷◌, ◌≡◌}
use Rattle.std.proofs.Math.ListN.{set}
use Rattle.std.proofs.Math.Seq.{set-append_seam}
use Rattle.std.proofs.lemmas.Bool.{false≢true}
use Rattle.std.proofs.lemmas.List.{reverse-append}
use Rattle.std.specs.Prelude.{OnOk, ⊤}
use Rattle.std.specs.declared.alloc.AllocError.{AllocError}

record Ends (xs : List Drawn) (d : Drawn) : Type 0 where
  pub front : List Drawn
  pub are : xs ≡ front ++ d ∷ []

ends : (xs : List Drawn) (n : ℕ) (d : Drawn) → n + 1 ≡ length xs → d ≡ get_or xs n d → Ends xs d
ends [] n d l e = absurd (omega arith)
ends (x ∷ []) zero d l e = record { front = []; are = ap (λ (y : Drawn). y ∷ []) (sym e) }
ends (x ∷ []) (suc n) d l e = absurd (omega arith)
ends (x ∷ y ∷ xs) zero d l e = absurd (omega arith)
ends (x ∷ y ∷ xs) (suc n) d l e = let k = ends (y ∷ xs) n d (omega arith) e in record
    { front = x ∷ k.front; are = ap (λ (l : List Drawn). x ∷ l) k.are }

more_of : Drawn → Spelled → ℕ → Drawn
more_of d tag size = record { key = d.key; upload = d.upload; tags = d.tags ++ tag ∷ []; sizes = d.sizes ++ size ∷ [] }

set_last : (front : List Drawn) (d e : Drawn) (n : ℕ) → n + 1 ≡ length (front ++ d ∷ []) → set (front ++ d ∷ []) n e ≡ front ++ e ∷ []
set_last front d e n l =
    let same : n ≡ length front = omega (arith, length-append front (d ∷ [])) in
    ap (λ m. set (front ++ d ∷ []) m e) same ∙ set-append_seam front d [] e

last_more : (xs : List Drawn) (n : ℕ) (d : Drawn) (tag : Spelled) (size : ℕ) → n + 1 ≡ length xs → d ≡ get_or xs n d
    → reverse (set xs n (more_of d tag size)) ≡ with_last tag size (reverse xs)
unfolding more_of
last_more xs n d tag size l e =
    let k = ends xs n d l e in
    ap (λ (ys : List Drawn). reverse (set ys n (more_of d tag size))) k.are
    ∙ (ap reverse (set_last k.front d (more_of d tag size) n (l ∙ ap length k.are))
    ∙ (reverse-append k.front (more_of d tag size ∷ [])
    ∙ sym (ap (λ (ys : List Drawn). with_last tag size (reverse ys)) k.are ∙ ap (with_last tag size) (reverse-append k.front (d ∷ [])))))

map_more : {X Y : Type 0} (f : X → Y) (xs : List X) (x : X) → map f (xs ++ x ∷ []) ≡ map f xs ++ f x ∷ []
map_more f [] x = refl
map_more f (y ∷ xs) x = ap (λ l. f y ∷ l) (map_more f xs x)

-- An upload with these parts.
abbrev pub by_parts : List ℕ → ℕ → List DrawnPart → Drawn
by_parts key upload ps = record { key = key; upload = upload; tags = map (λ p. p.tag) ps; sizes = map (λ p. p.size) ps }

one_part : (key : List ℕ) (upload : ℕ) (ps qs : List DrawnPart) (p : DrawnPart) (d : Drawn) → by_parts key upload ps ≡ d → qs ≡ ps ++ p ∷ []
    → by_parts key upload qs ≡ more_of d p.tag p.size
unfolding more_of
one_part key upload ps qs p d e q =
    ap (by_parts key upload) q
    ∙ (ap (λ (l : List Spelled). record { key = key; upload = upload; tags = l; sizes = map (λ p. p.size) (ps ++ p ∷ []) })
    (map_more (λ p. p.tag) ps p)
    ∙ (ap (λ (l : List ℕ). record { key = key; upload = upload; tags = map (λ p. p.tag) ps ++ p.tag ∷ []; sizes = l })
    (map_more (λ p. p.size) ps p)
    ∙ ap (λ (x : Drawn). more_of x p.tag p.size) e))

pub drawn_more : (xs : List Drawn) (len : ℕ) (d : Drawn) (key : List ℕ) (upload : ℕ) (ps qs : List DrawnPart) (p : DrawnPart)
    → len ≡ length xs → 0 < len → d ≡ get_or xs (len - 1) d → by_parts key upload ps ≡ d → qs ≡ ps ++ p ∷ []
    → reverse (set xs (len - 1) (by_parts key upload qs)) ≡ with_last p.tag p.size (reverse xs)
drawn_more xs len d key upload ps qs p l some e v q =
    ap (λ (x : Drawn). reverse (set xs (len - 1) x)) (one_part key upload ps qs p d v q) ∙ last_more xs (len - 1) d p.tag p.size
    (omega arith) e

pub none_more : (xs : List Drawn) (len : ℕ) (tag : Spelled) (size : ℕ) → len ≡ length xs → (0 < len → false ≡ true)
    → reverse xs ≡ with_last tag size (reverse xs)
none_more [] len tag size l n = refl
none_more (x ∷ xs) len tag size l n = absurd (false≢true (n (omega arith)))

pub known_is : (k : Known) (xs ds : List Drawn) (p q : Bool) (tag : Spelled) (size : ℕ)
    → (let before : Known = record { drawn = xs; put_sent = p; publish_sent = q } in before ≡ k) → ds ≡ with_last tag size xs
    → (let after : Known = record { drawn = ds; put_sent = p; publish_sent = q } in after ≡ record
    { drawn = with_last tag size k.drawn; put_sent = k.put_sent; publish_sent = k.publish_sent })
known_is k xs ds p q tag size e d = ap (λ (l : List Drawn). record { drawn = l; put_sent = p; publish_sent = q }) d ∙ ap
    (λ (x : Known). record { drawn = with_last tag size x.drawn; put_sent = x.put_sent; publish_sent = x.publish_sent }) e

pub on_ok : (r s : Result ⊤ AllocError) (A B : Type 0) → r ≡ s → OnOk s A → (A → B) → OnOk r B
on_ok (Ok t) (Ok u) A B e h f = f h
on_ok (Err x) s A B e h f = tt
on_ok (Ok t) (Err x) A B e h f = absurd (cc)
