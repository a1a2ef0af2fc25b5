-- The counts of sends, one after another.
use Rattle.machine.specs.Counted.{AreAnswered, Counted}
use Rattle.s3_types.specs.Moment.{is_unanswered}
use Rattle.s3_types.specs.declared.fates.Fate.{Fate}
use Rattle.s3_types.specs.declared.journal.Entry.{Entry}
use Rattle.std.proofs.Common.{List, Option, ap, append_assoc, arith, false, length, length-append, subst, sym, ℕ, [], ◌++◌, ◌+◌, ◌∙◌, ◌∷◌}
use Rattle.std.proofs.Common.{◌≡◌, ◌≤◌}

cancel : (l a b : List Entry) → l ++ a ≡ l ++ b → a ≡ b
cancel [] a b h = h
cancel (x ∷ l) a b h = let t : l ++ a ≡ l ++ b = cc in cancel l a b t

answered_both : (a b : List Entry) → AreAnswered (a ++ b) → AreAnswered a × AreAnswered b
answered_both [] b h = (tt, h)
answered_both (e ∷ a) b h = let k = answered_both a b h.1 in ((h.0, k.0), k.1)

-- No send was made.
pub counted_none : (old new : List Entry) (first requests before now : ℕ) (told tells : ℕ → Option Fate) → new ≡ old → requests ≡ first
    → now ≡ before → ((n : ℕ) → tells n ≡ told n) → Counted old new first requests before now told tells
counted_none old new first requests before now told tells h g e f = grind arith

-- One send was made, and its entry appended.
pub counted_one : (old mid new : List Entry) (e : Entry) (first requests before now : ℕ) (told tells : ℕ → Option Fate)
    → new ≡ mid ++ e ∷ [] → mid ≡ old → requests ≡ first + 1 → before ≤ now → (is_unanswered e.outcome ≡ false → now ≡ before)
    → ((n : ℕ) → tells n ≡ told n) → Counted old new first requests before now told tells
counted_one old mid new e first requests before now told tells em eo r l k t = record {
  made = let n : length new ≡ length (mid ++ e ∷ []) = ap length em in let m : length mid ≡ length old = ap length eo in omega
      (arith, n, m, length-append mid (e ∷ []), r);
  foretold = t;
  losses = l;
  kept = λ part ep a. k (subst AreAnswered (cancel old part (e ∷ []) (sym ep ∙ em ∙ ap (λ l. l ++ e ∷ []) eo)) a).0;
}

-- First the one sends were made, and then the others.
pub counted_then : (old mid new part rest : List Entry) (first middle requests before between now : ℕ)
    (told meanwhile tells : ℕ → Option Fate) → mid ≡ old ++ part → new ≡ mid ++ rest
    → Counted old mid first middle before between told meanwhile → Counted mid new middle requests between now meanwhile tells
    → Counted old new first requests before now told tells
counted_then old mid new part rest first middle requests before between now told meanwhile tells em en h k = record {
  made = omega (arith, h.made, k.made);
  foretold = λ n. k.foretold n ∙ h.foretold n;
  losses = omega (arith, h.losses, k.losses);
  kept = λ p e a.
      let same : p ≡ part ++ rest = cancel old p (part ++ rest) (sym e ∙ en ∙ ap (λ l. l ++ rest) em ∙ append_assoc old part rest) in
      let both = answered_both part rest (subst AreAnswered same a) in
      k.kept rest en both.1 ∙ h.kept part em both.0;
}
