-- The paths below a destination at which readers see files.
use Rattle.audit_model.specs.Answers.{seen_paths, visible_in}
use Rattle.auditor.specs.inner.Destinations.{behind, in_list}
use Rattle.path_keys.specs.Paths.{Path, below}
use Rattle.soundness.specs.Paths.{is_visible}
use Rattle.std.proofs.Common.{Bool, Bor, List, MatchOption, None, Option, Some, ap, cond, drop, false, length, nat_eq, option_map, refl}
use Rattle.std.proofs.Common.{subst, sym, true, ℕ, [], ◌++◌, ◌+◌, ◌∙◌, ◌∷◌, ◌≡◌, ◌≢◌}
use Rattle.std.proofs.lemmas.Bool.Decides.{Decides-eqb}
use Rattle.std.proofs.lemmas.Slice.Eq.{starts_is}
use Rattle.std.specs.List.{starts_with}
use Rattle.std.specs.Str.{bytes_eq}
use Rattle.std.specs.Str.Pattern.{FindsTextPrefix}

begins_so : (front text rest : List ℕ) → text ≡ front ++ rest → starts_with nat_eq text front ≡ true
begins_so front text rest e = (starts_is Decides-eqb text front (starts_with nat_eq text front) refl).1 rest e

begins_not : (front text : List ℕ) → ((rest : List ℕ) → text ≢ front ++ rest) → starts_with nat_eq text front ≡ false
begins_not front text h = by (starts_with nat_eq text front) refl
  where
    by : (b : Bool) → starts_with nat_eq text front ≡ b → b ≡ false
    by true e = absurd (h (drop (length front) text) ((starts_is Decides-eqb text front (starts_with nat_eq text front) refl).0 e))
    by false e = refl

-- The rest of a text after its prefix is removed.
pub behind_front : (p s : List ℕ) (r : Option (Bor (List ℕ)))
    → MatchOption r (FindsTextPrefix p s None) (λ x. (n : ℕ) × FindsTextPrefix p s (Some n) × (x.now ≡ drop n s)
    × (length x.now + n ≡ length s)) → option_map (λ r. r.now) r ≡ behind p s
behind_front p s None h = rw (begins_not p s h) refl
behind_front p s (Some x) h = rw (begins_so p s (drop h.0 s) h.1.1) (ap Some (h.2 ∙ ap (λ n. drop n s) h.1.0))

-- In another bucket there is no such path.
pub elsewhere : (dest : Path) (bucket : List ℕ) (keys : List (List ℕ)) → bytes_eq bucket dest.bucket ≡ false
    → [] ≡ seen_paths dest bucket keys
elsewhere dest bucket keys e = rw e refl

-- In the destination's bucket the path is what follows the prefix, if readers see a file there.
pub here : (dest : Path) (bucket key front : List ℕ) → bytes_eq bucket dest.bucket ≡ true → front ≡ below dest.key []
    → seen_paths dest bucket (key ∷ []) ≡ visible_in (behind front key) ++ []
here dest bucket key front e f = rw e (ap (λ (v : List ℕ). visible_in (behind v key) ++ []) (sym f))

pub none_here : (dest : Path) (bucket key front : List ℕ) → bytes_eq bucket dest.bucket ≡ true → front ≡ below dest.key []
    → None ≡ behind front key → [] ≡ seen_paths dest bucket (key ∷ [])
none_here dest bucket key front e f o = sym (here dest bucket key front e f ∙ ap (λ (v : Option (List ℕ)). visible_in v ++ []) (sym o))

pub hidden_here : (dest : Path) (bucket key front p : List ℕ) → bytes_eq bucket dest.bucket ≡ true → front ≡ below dest.key []
    → Some p ≡ behind front key → is_visible p ≡ false → [] ≡ seen_paths dest bucket (key ∷ [])
hidden_here dest bucket key front p e f o v =
    sym (here dest bucket key front e f ∙ ap (λ (v : Option (List ℕ)). visible_in v ++ []) (sym o)
    ∙ ap (λ b. cond b (p ∷ []) [] ++ []) v)

pub seen_here : (dest : Path) (bucket key front p q : List ℕ) → bytes_eq bucket dest.bucket ≡ true → front ≡ below dest.key []
    → Some p ≡ behind front key → is_visible p ≡ true → q ≡ p → q ∷ [] ≡ seen_paths dest bucket (key ∷ [])
seen_here dest bucket key front p q e f o v same =
    ap (λ (v : List ℕ). v ∷ []) same
    ∙ sym (here dest bucket key front e f ∙ ap (λ (v : Option (List ℕ)). visible_in v ++ []) (sym o)
    ∙ ap (λ b. cond b (p ∷ []) [] ++ []) v)
