-- Journals after which readers see the wrong files.
use Rattle.text_and_lists.proofs.Members.{none_some}
use Rattle.job_examples.proofs.Books.{Book, content_of}
use Rattle.job_examples.proofs.Checks.{are_ours, objects_at, views, without_files}
use Rattle.job_examples.proofs.MapLists.{map_of}
use Rattle.job_examples.proofs.Sights.{Saw, Start, book_with, empty_book, nothing, opens, opens_is, saw_all, seen_of, sees}
use Rattle.job_examples.specs.Jobs.{before_commit, commits_at}
use Rattle.job_examples.specs.OneFile.{script}
use Rattle.job_examples.specs.Refused.{Misshown, MisshownRuns, early, foreign, kept_gone, marked_early, old_opening, torn, unread}
use Rattle.job_model.specs.JobScript.{Script}
use Rattle.job_model.specs.declared.ends.Pick.{Pick}
use Rattle.job_protocol.specs.Seen.{Times, nothing_seen, see_all}
use Rattle.job_spec.specs.Entries.{AreOwn}
use Rattle.job_spec.specs.Headline.{Always, Kept}
use Rattle.job_spec.specs.Promise.{Promised}
use Rattle.job_spec.specs.Turns.{is_own}
use Rattle.s3_types.specs.declared.journal.Entry.{Entry}
use Rattle.std.proofs.Common.{List, None, ap, arith, codes, inl, inr, is_some, length, refl, subst, sym, true, [], ◌&&◌, ◌∙◌, ◌∷◌, ◌≡◌}
use Rattle.std.proofs.lemmas.Bool.{and_parts}
use Rattle.std.proofs.lemmas.List.{take_all}
use Rattle.std.specs.Fmt.{digits}
use Rattle.std.specs.List.{list_all}

abbrev old_book : Book
old_book = book_with (codes "out/old") (record { bytes = codes "old"; header = None })

old_is : content_of old_book ≡ old_opening
unfolding content_of map_of
old_is = refl

abbrev old : Start
old = record { book = old_book; content = old_opening; starts = old_is }

-- What a kept promise means at the end of a journal.
pub at_end : (s : Start) (w : Script) (k : Times) (es : List Entry) → are_ours es ≡ true → Always w k s.content es
    → Kept w (content_of (without_files s.book)) (seen_of (saw_all w k (opens (without_files s.book)) es))
at_end s w k es h a =
    let b = without_files s.book in
    subst (λ x. Kept w (content_of b) x)
    (ap (λ l. see_all w k (nothing_seen (content_of b)) l) (take_all (length es) es (omega arith)) ∙ ap (λ x. see_all w k x es)
    (opens_is s.book) ∙ sees w k (opens b) es h)
    (subst (λ c. Always w k c es) (sym s.starts) a (length es) (omega arith))

-- ---- one by one

abbrev end_of : Start → List Entry → Saw
end_of s es = saw_all script (commits_at 4) (opens (without_files s.book)) es

abbrev Refuses : Start → List Entry → Type 0
Refuses s es = Always script (commits_at 4) s.content es → ⊥

foreign_in : Refuses nothing foreign
unfolding digits
foreign_in a = elim (((at_end nothing script (commits_at 4) foreign refl a).between refl).only refl (codes "other") (codes "hello")
    (views (end_of nothing foreign).book (codes "other"))) [
      | inl e ↦ none_some (views empty_book (codes "other")) e
      | inr e ↦ none_some refl e
    ]

torn_in : Refuses nothing torn
unfolding digits
torn_in a = elim (((at_end nothing script (commits_at 4) torn refl a).between refl).only refl (codes "part-00000") (codes "hel")
    (views (end_of nothing torn).book (codes "part-00000"))) [
      | inl e ↦ none_some (views empty_book (codes "part-00000")) e
      | inr e ↦ cc
    ]

early_in : Refuses nothing early
unfolding digits
early_in a = none_some ((at_end nothing script (commits_at 4) early refl a).before refl (codes "part-00000") ∙ views empty_book
    (codes "part-00000")) (views (end_of nothing early).book (codes "part-00000"))

unread_in : Refuses nothing unread
unfolding digits
unread_in a = none_some (((at_end nothing script (commits_at 4) unread refl a).between refl).untouched refl (codes "part-00000") ∙ views
    empty_book (codes "part-00000")) (views (end_of nothing unread).book (codes "part-00000"))

marked_early_in : Refuses nothing marked_early
unfolding digits
marked_early_in a =
    let b = (end_of nothing marked_early).book in
    none_some (views b (codes "part-00000")) (((at_end nothing script (commits_at 4) marked_early refl a).whole
    (ap (λ o. true && is_some o) (objects_at b (codes "out/_SUCCESS")))).files (codes "part-00000"))

kept_gone_in : Refuses old kept_gone
unfolding digits
kept_gone_in a = none_some (views (end_of old kept_gone).book (codes "old"))
    (((at_end old script (commits_at 4) kept_gone refl a).between refl).kept refl (codes "old") (codes "old") (views old.book (codes "old"))
    refl refl)

pub shown : Misshown
shown = record {
  foreign = foreign_in;
  torn = torn_in;
  early = early_in;
  unread = unread_in;
  marked_early = marked_early_in;
  kept_gone =
      kept_gone_in;
}

pub owns_all : (es : List Entry) → list_all (λ e. is_own e.actor) es ≡ true → AreOwn es
owns_all [] h = tt
owns_all (e ∷ es) h = let p = and_parts (is_own e.actor) _ h in (p.0, owns_all es p.1)

unpromised : (s : Start) (es : List Entry) → Refuses s es → list_all (λ e. is_own e.actor) es ≡ true → (ps : List Pick)
    → Promised script s.content es ps before_commit → ⊥
unpromised s es refused own ps h = refused (h.always (owns_all es own))

pub runs : MisshownRuns
runs =
    let none = unpromised nothing in
    let more = none marked_early marked_early_in refl in
    search (
      none foreign foreign_in refl,
      none torn torn_in refl,
      none early early_in refl,
      none unread unread_in refl,
      more,
      unpromised old
          kept_gone kept_gone_in refl,
    )
