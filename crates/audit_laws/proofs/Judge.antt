-- A judge's knowledge after the current moment comes once more, and changes that give paths the same tags.
use Rattle.std.proofs.Common.{List, None, Option, Some, [], false, inl, inr, refl, subst, sym, ℕ, ◌++◌, ◌∙◌, ◌∷◌, ◌≡◌}
use Rattle.std.proofs.lemmas.Bool.{true≢false}
use Rattle.std.proofs.lemmas.List.Elements.{All-contains, All-push, Contains-append_cases, Contains-append_left, Contains-append_right}
use Rattle.std.proofs.lemmas.List.Elements.{Contains-push}
use Rattle.std.specs.FinMap as fin
use Rattle.std.specs.List.{Contains, list_any}
use Rattle.std.specs.Prelude.{map}
use Rattle.std.specs.Str.{bytes_eq}
use Rattle.text_and_lists.proofs.Members.{text_gone, text_here, text_left, text_other}
use Rattle.soundness.specs.Claims.{Attempts, Files}
use Rattle.soundness.specs.Moments.{Moment, Unchanged}
use Rattle.judging.proofs.Changed.{among, where_changed}
use Rattle.judging.proofs.Owned.{either}
use Rattle.judging.specs.Judging.{AttemptExplains, OthersFit, StillExplains}
use Rattle.audit_claims.specs.Claims.{Tags}
use Rattle.audit_judge.proofs.Narrowed.{tells_of_all}
use Rattle.audit_judge.proofs.Turn.{calm_may}
use Rattle.audit_judge.specs.Bench.{Bench, Paths, claim, now, opened}
use Rattle.audit_judge.specs.Changes.{change_all, change_by}
use Rattle.audit_judge.specs.Following.{Follows}
use Rattle.audit_laws.proofs.Seen.{none_in, one_of}
use Rattle.audit_laws.specs.LineByLine.{Again, ChangedAll}

-- ---- a moment once more

module _ (b : Bench) (ms : List (Moment Tags)) (f : Follows b ms) where
  explained_now : (task : Attempts Tags) (files : Files Tags) → StillExplains (claim b) (opened b) ms task files
      → AttemptExplains (claim b) (opened b) task (now b) files
  explained_now task files h = elim f.last [
    | inl i ↦ All-contains (λ m. AttemptExplains (claim b) (opened b) task m files) ms (now b) h i
    | inr calm ↦ (λ p o. calm_may (claim b) (opened b) (now b) calm p _)
  ]

  others_now : OthersFit (claim b) (opened b) (now b)
  others_now = elim f.last [
    | inl i ↦ All-contains (OthersFit (claim b) (opened b)) ms (now b) f.others i
    | inr calm ↦ (λ p o. calm_may (claim b) (opened b) (now b) calm p None)
  ]

  unneeded_now : b.needed ≡ false → Unchanged (opened b) (now b)
  unneeded_now n = elim f.last [ inl i ↦ All-contains (Unchanged (opened b)) ms (now b) (f.unneeded n) i | inr calm ↦ calm ]

  once_more : Follows b (ms ++ now b ∷ [])
  once_more = record {
    good = f.good;
    last = inl (Contains-push ms (now b));
    before = f.before;
    stale = f.stale;
    unneeded = λ n. All-push (Unchanged (opened b)) ms (now b) (f.unneeded n) (unneeded_now n);
    attempted = f.attempted;
    explained = f.explained;
    candidates = tells_of_all (StillExplains (claim b) (opened b) ms) (StillExplains (claim b) (opened b) (ms ++ now b ∷ []))
        (λ task files h. ((where_changed Tags).one_more (claim b) (opened b) ms task files (now b)).1 (h, explained_now task files h))
        (λ task files h. (((where_changed Tags).one_more (claim b) (opened b) ms task files (now b)).0 h).0)
        b.claimed.listed b.candidates f.candidates;
    others = All-push (OthersFit (claim b) (opened b)) ms (now b) f.others others_now;
  }

pub again : Again
again b ms f = once_more b ms f

-- ---- the same change at several paths

changed_here : (o : Option Tags) (m : Paths) (p q : List ℕ) → q ≡ p → fin.get (change_by p o m) q ≡ o
changed_here None m p q e = text_gone m p q e
changed_here (Some tags) m p q e = text_here m p q tags e

kept_elsewhere : (o : Option Tags) (m : Paths) (p q : List ℕ) → (q ≡ p → ⊥) → fin.get (change_by p o m) q ≡ fin.get m q
kept_elsewhere None m p q out = text_left m p q out
kept_elsewhere (Some tags) m p q out = text_other m p q tags out

elsewhere : (o : Option Tags) (ps : List (List ℕ)) (m : Paths) (q : List ℕ) → (Contains ps q → ⊥)
    → fin.get (change_all (map (λ p. record { path = p; etags = o }) ps) m) q ≡ fin.get m q
elsewhere o [] m q out = refl
elsewhere o (p ∷ ps) m q out = elsewhere o ps (change_by p o m) q (λ i. out (Contains-append_right (p ∷ []) ps q i))
    ∙ kept_elsewhere o m p q (λ e. out (Contains-append_left (p ∷ []) ps q (subst (Contains (p ∷ [])) (sym e) (Contains-push [] p))))

there : (o : Option Tags) (ps : List (List ℕ)) (m : Paths) (q : List ℕ) → Contains ps q
    → fin.get (change_all (map (λ p. record { path = p; etags = o }) ps) m) q ≡ o
there o [] m q i = absurd (none_in q i)
there o (p ∷ ps) m q i = elim (either (list_any (bytes_eq q) ps)) [
  | inl e ↦ there o ps (change_by p o m) q ((among ps q).0 e)
  | inr n ↦ let out = (λ (c : Contains ps q). true≢false (sym ((among ps q).1 c) ∙ n)) in
      elsewhere o ps (change_by p o m) q out ∙ changed_here o m p q (elim (Contains-append_cases (p ∷ []) ps q i) [
        | inl one ↦ sym (one_of p q one)
        | inr c ↦ absurd (out c)
      ])
]

pub changed_all : ChangedAll
changed_all = record { there = there; elsewhere = elsewhere }
