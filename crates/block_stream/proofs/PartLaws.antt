-- Laws of numbered parts and of their completion. Contracts cite none of them.
use Rattle.text_and_lists.proofs.Lists.{one_longer}
use Rattle.text_and_lists.proofs.Naturals.{at_most_so, below_so}
use Rattle.text_and_lists.specs.Order.{text_equiv}
use Rattle.block_stream.specs.Holds.{AreBlocks, AreLong, numbered, numbered_from}
use Rattle.s3_types.specs.Blocks.{named_from}
use Rattle.s3_types.specs.Multipart.{bytes_of, has_tag, is_large, is_none_named, is_sent, joined, rises, rises_from, tag_eq}
use Rattle.s3_types.specs.Store.{Parts, Upload}
use Rattle.s3_types.specs.Tags.{Spelled, plain_tag}
use Rattle.s3_types.specs.declared.request.NamedPart.{NamedPart}
use Rattle.std.proofs.Common.{ap, arith, refl, subst, sym, ◌∙◌}
use Rattle.std.proofs.lemmas.Bool.Decides.{nat_tests}
use Rattle.std.proofs.lemmas.List.{map-append}
use Rattle.std.specs.Cmp.{IsTotalOrder, eq_by_cmp_equiv, nat_cmp_total}
use Rattle.std.specs.FinMap.{FinMap, get-insert}
use Rattle.std.specs.List.{concat, flat_map, list_all}
use Rattle.std.specs.Ordering.{eq_by_cmp, nat_cmp}
use Rattle.std.specs.Prelude.{Bool, Err, List, Ok, Option, Some, cond, false, length, map, nat_eq, nat_le, suc, take, true, ℕ, [], ◌&&◌}
use Rattle.std.specs.Prelude.{◌++◌, ◌+◌, ◌-◌, ◌<◌, ◌∷◌, ◌≡◌, ◌≤◌}
use Rattle.std.specs.declared.cmp.Ordering.{Ordering}
use Rattle.std.specs.FinMap as fin

-- What was put is there.
pub get_same : {K X : Type 0} {R : K → K → Ordering} (o : IsTotalOrder R) (m : FinMap R X) (k : K) (v : X)
    → fin.get (fin.insert m k v) k ≡ Some v
get_same o m k v = get-insert o m k v k ∙ ap (λ b. cond b (Some v) (fin.get m k)) ((eq_by_cmp_equiv o).refl k)

get_lower : (m : Parts) (k : ℕ) (v : List ℕ) (q : ℕ) → q < k → fin.get (fin.insert m k v) q ≡ fin.get m q
get_lower m k v q h =
    let e : eq_by_cmp nat_cmp q k ≡ false = grind (arith, nat_tests) in
    get-insert nat_cmp_total m k v q ∙ ap (λ b. cond b (Some v) (fin.get m q)) e

-- One part more.
pub numbered_more : (n : ℕ) (m : Parts) (bs : List (List ℕ)) (x : List ℕ)
    → numbered_from n m (bs ++ x ∷ []) ≡ fin.insert (numbered_from n m bs) (length bs + n) x
numbered_more n m [] x =
    let e : n ≡ length {A = List ℕ} [] + n = omega arith in
    ap (λ k. fin.insert m k x) e
numbered_more n m (b ∷ bs) x =
    let e : length bs + (n + 1) ≡ length (b ∷ bs) + n = omega arith in
    numbered_more (n + 1) (fin.insert m n b) bs x ∙ ap (λ k. fin.insert (numbered_from (n + 1) (fin.insert m n b) bs) k x) e

-- Holds if the parts from n on are these.
abbrev pub StandFrom : Parts → ℕ → List (List ℕ) → Type 0
StandFrom m n [] = Unit {0}
StandFrom m n (b ∷ bs) = (fin.get m n ≡ Some b) × StandFrom m (n + 1) bs

lower_kept : (n : ℕ) (m : Parts) (bs : List (List ℕ)) (q : ℕ) → q < n → fin.get (numbered_from n m bs) q ≡ fin.get m q
lower_kept n m [] q h = refl
lower_kept n m (b ∷ bs) q h = lower_kept (n + 1) (fin.insert m n b) bs q (omega arith) ∙ get_lower m n b q h

pub numbered_stand : (n : ℕ) (m : Parts) (bs : List (List ℕ)) → StandFrom (numbered_from n m bs) n bs
numbered_stand n m [] = tt
numbered_stand n m (b ∷ bs) =
    (lower_kept (n + 1) (fin.insert m n b) bs n (omega arith) ∙ get_same nat_cmp_total m n b, numbered_stand (n + 1) (fin.insert m n b) bs)

-- The last part is there.
pub last_stands : (bs : List (List ℕ)) (x : List ℕ) → fin.get (numbered (bs ++ x ∷ [])) (length bs + 1) ≡ Some x
last_stands bs x = ap (λ m. fin.get m (length bs + 1)) (numbered_more 1 fin.empty bs x) ∙ get_same nat_cmp_total (numbered bs)
    (length bs + 1) x

-- ---- a completion that names them all

same_tag : (t : Spelled) → tag_eq t t ≡ true
same_tag t = ap (λ b. b && nat_eq t.parts t.parts) (text_equiv.refl t.digits) ∙ (grind (arith, nat_tests))

all_sent : (m : Parts) (n : ℕ) (bs : List (List ℕ)) → StandFrom m n bs → list_all (is_sent m) (named_from n (map plain_tag bs)) ≡ true
all_sent m n [] h = refl
all_sent m n (b ∷ bs) h =
    ap (λ o. has_tag (plain_tag b) o && list_all (is_sent m) (named_from (n + 1) (map plain_tag bs))) h.0
    ∙ ap (λ v. v && list_all (is_sent m) (named_from (n + 1) (map plain_tag bs))) (same_tag (plain_tag b))
    ∙ all_sent m (n + 1) bs h.1

all_large : (m : Parts) (minimum size n : ℕ) (bs rest : List (List ℕ)) → StandFrom m n (bs ++ rest) → AreLong size bs → minimum ≤ size
    → list_all (is_large m minimum) (named_from n (map plain_tag bs)) ≡ true
all_large m minimum size n [] rest h k l = refl
all_large m minimum size n (b ∷ bs) rest h k l =
    ap (λ (o : Option (List ℕ)). nat_le minimum (length (Rattle.std.specs.Option.unwrap_or o [])) && list_all (is_large m minimum)
    (named_from (n + 1) (map plain_tag bs))) h.0
    ∙ ap (λ v. v && list_all (is_large m minimum) (named_from (n + 1) (map plain_tag bs)))
    (at_most_so minimum (length b) (subst (λ n. minimum ≤ n) (sym k.0) l))
    ∙ all_large m minimum size (n + 1) bs rest h.1 k.1 l

all_bytes : (m : Parts) (n : ℕ) (bs : List (List ℕ)) → StandFrom m n bs
    → flat_map (bytes_of m) (named_from n (map plain_tag bs)) ≡ concat bs
all_bytes m n [] h = refl
all_bytes m n (b ∷ bs) h =
    ap (λ (o : Option (List ℕ)). Rattle.std.specs.Option.unwrap_or o [] ++ flat_map (bytes_of m) (named_from (n + 1) (map plain_tag bs)))
    h.0
    ∙ ap (λ l. b ++ l) (all_bytes m (n + 1) bs h.1)

all_rise : (n k : ℕ) (ts : List Spelled) → n < k → rises_from n (named_from k ts) ≡ true
all_rise n k [] h = refl
all_rise n k (t ∷ ts) h = let l : k < k + 1 = omega arith in ap (λ b. b && rises_from k (named_from (k + 1) ts)) (below_so n k h) ∙ all_rise
    k (k + 1) ts l

rise : (n : ℕ) (ts : List Spelled) → rises (named_from n ts) ≡ true
rise n [] = refl
rise n (t ∷ ts) = let l : n < n + 1 = omega arith in all_rise n (n + 1) ts l

-- All but the last.
front_named : (n : ℕ) (ts : List Spelled) (t : Spelled) → take (length ts) (named_from n (ts ++ t ∷ [])) ≡ named_from n ts
front_named n [] t = refl
front_named n (x ∷ ts) t = ap (λ l. record { number = n; tag = x } ∷ l) (front_named (n + 1) ts t)

length_named : (n : ℕ) (ts : List Spelled) → length (named_from n ts) ≡ length ts
length_named n [] = refl
length_named n (t ∷ ts) = ap suc (length_named (n + 1) ts)

not_none : (n : ℕ) (ts : List Spelled) (t : Spelled) → is_none_named (named_from n (ts ++ t ∷ [])) ≡ false
not_none n [] t = refl
not_none n (x ∷ ts) t = refl

-- Blocks no shorter than the minimum are joined.
module _ (u : Upload) (f : List (List ℕ)) (x : List ℕ) (size minimum : ℕ) (is : u.parts ≡ numbered (f ++ x ∷ [])) (long : AreLong size f)
    (least : minimum ≤ size) where
  abbrev tags : List Spelled
  tags = map plain_tag (f ++ x ∷ [])

  abbrev ns : List NamedPart
  ns = named_from 1 tags

  stand : StandFrom u.parts 1 (f ++ x ∷ [])
  stand = subst (λ m. StandFrom m 1 (f ++ x ∷ [])) (sym is) (numbered_stand 1 fin.empty (f ++ x ∷ []))

  one_less : length (map plain_tag f ++ plain_tag x ∷ []) - 1 ≡ length (map plain_tag f)
  one_less = omega (arith, one_longer (map plain_tag f) (plain_tag x))

  split : tags ≡ map plain_tag f ++ plain_tag x ∷ []
  split = map-append plain_tag f (x ∷ [])

  fronts : take (length ns - 1) ns ≡ named_from 1 (map plain_tag f)
  fronts = grind (arith, split, length_named, one_less, front_named)

  checks : (a b c d : Bool) (l : List ℕ) → a ≡ false → b ≡ true → c ≡ true → d ≡ true
      → cond a (Err Rattle.s3_types.specs.declared.reply.Refusal.TheVariants.MalformedList)
      (cond b (cond c (cond d (Ok l) (Err Rattle.s3_types.specs.declared.reply.Refusal.TheVariants.EntityTooSmall))
      (Err Rattle.s3_types.specs.declared.reply.Refusal.TheVariants.InvalidPart))
      (Err Rattle.s3_types.specs.declared.reply.Refusal.TheVariants.InvalidPartOrder)) ≡ Ok l
  checks a b c d l ea eb ec ed = cc

  all_joined : joined (Some u) ns minimum ≡ Ok (concat (f ++ x ∷ []))
  all_joined = checks (is_none_named ns) (rises ns) (list_all (is_sent u.parts) ns)
      (list_all (is_large u.parts minimum) (take (length ns - 1) ns)) (flat_map (bytes_of u.parts) ns)
      (ap (λ ts. is_none_named (named_from 1 ts)) split ∙ not_none 1 (map plain_tag f) (plain_tag x)) (rise 1 tags)
      (all_sent u.parts 1 (f ++ x ∷ []) stand)
      (ap (list_all (is_large u.parts minimum)) fronts ∙ all_large u.parts minimum size 1 f (x ∷ []) stand long least)
      ∙ ap Ok (all_bytes u.parts 1 (f ++ x ∷ []) stand)

pub completes : (u : Upload) (bs : List (List ℕ)) (size minimum : ℕ) → u.parts ≡ numbered bs → AreBlocks size bs → minimum ≤ size
    → joined (Some u) (named_from 1 (map plain_tag bs)) minimum ≡ Ok (concat bs)
completes u bs size minimum h g e = grind (arith, all_joined)
