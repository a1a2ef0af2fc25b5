-- The requests of a check all ask for a page, and the first request of the commit after it, in the mode fail, does not. So there is only
-- one way to part their entries.
use Rattle.job_model.specs.Attempts.{Who}
use Rattle.job_model.specs.JobScript.{Script}
use Rattle.job_protocol.specs.JobCommits.{commit_asks, commit_start, commit_tells, picks_of, replaced}
use Rattle.job_protocol.specs.Rechecks.{Check, check_asks}
use Rattle.retries.specs.Operation.{Follows}
use Rattle.retries.specs.Retries.{Retried, wants_of}
use Rattle.s3_types.specs.declared.journal.Entry.{Entry}
use Rattle.s3_types.specs.declared.request.Committer.{Committer}
use Rattle.s3_types.specs.declared.request.Mode.{Mode}
use Rattle.s3_types.specs.declared.request.Mode.TheVariants.{Fail}
use Rattle.s3_types.specs.declared.request.Request.{Request}
use Rattle.s3_types.specs.declared.request.Request.TheVariants.{ListPage}
use Rattle.std.proofs.Common.{Bool, List, None, Option, Some, ap, arith, cond, false, refl, subst, sym, true, ℕ, [], ◌++◌, ◌∙◌, ◌∷◌, ◌≡◌}
use Rattle.twin_safety.specs.Checks.{checking, next}
use Rattle.twin_safety.specs.Ends.{IsCleared}

-- The request asks for a page.
abbrev pub is_page : Request → Bool
is_page (ListPage bucket prefix delimited after limit) = true
is_page _ = false

abbrev pub AllPages : List Entry → Type 0
AllPages [] = Unit {0}
AllPages (e ∷ es) = (is_page e.request ≡ true) × AllPages es

-- The first request does not ask for a page.
abbrev pub NoPage : List Entry → Type 0
NoPage [] = Unit {0}
NoPage (e ∷ es) = is_page e.request ≡ false

-- ---- the check

module _ (w : Script) where
  asks_page : (c : Check) (r : Request) → check_asks w c ≡ Some r → is_page r ≡ true
  asks_page c r h = grind arith

  check_pages : (t : Retried Check) (es : List Entry) → Follows (wants_of (check_asks w)) (next w) t es → AllPages es
  check_pages t [] f = tt
  check_pages t (e ∷ es) f = (asks_page t.operation e.request f.0, check_pages (next w t e.outcome) es f.1)

  cleared_pages : (missing : Option ℕ) (reported : List Who) (es : List Entry) → IsCleared Fail missing w reported es → AllPages es
  cleared_pages None reported es c = check_pages (checking w reported) es c.1.0
  cleared_pages (Some t) reported es c = subst AllPages (sym c) tt

  -- ---- the commit

  none_replaced : (c : Committer) → replaced c Fail w (picks_of []) ≡ []
  none_replaced c = grind arith

  no_page : w.mode ≡ Fail → (missing : Option ℕ) (es : List Entry) → Follows (commit_asks w) (commit_tells w) (commit_start w missing) es
      → NoPage es
  no_page h missing es g = grind arith

-- ---- one way to part them

-- The entries after the pages.
abbrev behind_pages : List Entry → List Entry
behind_pages [] = []
behind_pages (e ∷ es) = cond (is_page e.request) (behind_pages es) (e ∷ es)

one_parting : (a x : List Entry) → AllPages a → NoPage x → behind_pages (a ++ x) ≡ x
one_parting [] [] p n = refl
one_parting [] (u ∷ x) p n = ap (λ b. cond b (behind_pages x) (u ∷ x)) n
one_parting (u ∷ a) x p n = ap (λ b. cond b (behind_pages (a ++ x)) (u ∷ (a ++ x))) p.0 ∙ one_parting a x p.1 n

-- However these entries are parted, the commit's own ones are the same.
pub one_rest : (w : Script) (es a x b y : List Entry) (missing other : Option ℕ) (reported others : List Who) → es ≡ a ++ x → es ≡ b ++ y
    → IsCleared w.mode missing w reported a → IsCleared w.mode other w others b
    → (m n : Option ℕ) → Follows (commit_asks w) (commit_tells w) (commit_start w m) x
    → Follows (commit_asks w) (commit_tells w) (commit_start w n) y → x ≡ y
one_rest w es a x b y missing other reported others e f c d m n first second = by w.mode refl c d
  where
    parts : a ++ x ≡ b ++ y
    parts = sym e ∙ f

    by : (v : Mode) → w.mode ≡ v → IsCleared v missing w reported a → IsCleared v other w others b → x ≡ y
    by Fail is c d =
        sym (one_parting a x (cleared_pages w missing reported a c) (no_page w is m x first)) ∙ ap behind_pages parts ∙ one_parting b y
        (cleared_pages w other others b d) (no_page w is n y second)
    by _ is c d = sym (ap (λ l. l ++ x) c) ∙ parts ∙ ap (λ l. l ++ y) d
