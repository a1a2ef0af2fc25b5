-- What a command's requests lead to, from the beginning.
use Rattle.machine.specs.Counted.{AreAnswered}
use Rattle.machine.specs.Turns.{AreBy}
use Rattle.s3_service.specs.Ids.{AreBelow}
use Rattle.s3_types.specs.Moment.{AreHonest, IsHonest, after_all, moment}
use Rattle.s3_types.specs.Store.{Content, Scene, opening}
use Rattle.s3_types.specs.declared.journal.Entry.{Entry}
use Rattle.s3_types.specs.declared.request.Actor.TheVariants.{Shell}
use Rattle.s3a_shell.proofs.EachCommand.{left_by}
use Rattle.s3a_shell.proofs.Staying.{Leaves, below_none}
use Rattle.s3a_shell.proofs.Unchanged.{no_change}
use Rattle.s3a_shell.specs.Doings.{Does}
use Rattle.s3a_shell.specs.Sendings.{has_changed}
use Rattle.s3a_shell.specs.inner.Sendings.{Sends}
use Rattle.s3a_shell.specs.Stays.{OnlyIn, bucket_in, ended_by}
use Rattle.s3a_shell.specs.declared.said.Said.{Said}
use Rattle.s3a_words.specs.declared.command.Command.{Command}
use Rattle.std.proofs.Common.{ap, arith, subst, sym, ◌∙◌}
use Rattle.std.proofs.lemmas.List.{take_all}
use Rattle.std.specs.Prelude.{List, None, false, length, take, true, ℕ, [], ◌++◌, ◌≡◌, ◌≤◌}
use Rattle.store_frame.specs.Held.{upload_at}

module _ (always : Scene → Type 0) (c : Content) (old es : List Entry) (z s : Scene) (first : old ≡ []) (begun : z ≡ opening c)
    (h : Sends always old z es s) where
  whole : es ≡ h.part
  whole = h.appended ∙ ap (λ (l : List Entry). l ++ h.part) first

  -- the scene at the end is the last point
  pub at_last : s ≡ moment c es (length es)
  at_last =
      let all : take (length es) es ≡ es = take_all (length es) es (omega arith) in
      h.scene ∙ ap (λ (v : Scene). after_all v h.part) begun ∙ ap (after_all (opening c)) (sym whole ∙ sym all)

  pub all_moments : (m : ℕ) → always (moment c es m)
  all_moments m = subst (λ (l : List Entry). always (after_all (opening c) (take m l))) (sym whole)
      (subst (λ (v : Scene). always (after_all v (take m h.part))) begun (h.moments m))

  pub all_by : AreBy Shell 0 es
  all_by = subst (λ (l : List Entry). AreBy Shell 0 l) (sym whole) h.by

  pub all_answered : AreAnswered es
  all_answered = subst AreAnswered (sym whole) h.answered

  pub all_honest : IsHonest c es
  all_honest = subst (λ (l : List Entry). AreHonest (opening c) l) (sym whole) (subst (λ (v : Scene). AreHonest v h.part) begun h.honest)

  -- if no request is a change, the last content is the first
  pub same_at : has_changed es ≡ false → s.content ≡ c
  same_at none =
      let all : take (length es) es ≡ es = take_all (length es) es (omega arith) in
      ap (λ (v : Scene). v.content) at_last ∙ (ap (λ (l : List Entry). (after_all (opening c) l).content) all ∙ no_change es (opening c)
      all_honest all_answered none)

  -- the same for what was done
  module _ (command : Command) (bytes : List ℕ) (what : Said) (did : Does command bytes z what s) where
    pub did_at : Does command bytes (opening c) what (moment c es (length es))
    did_at =
        subst (λ (v : Scene). Does command bytes v what (moment c es (length es))) begun
        (subst (λ (v : Scene). Does command bytes z what v) at_last did)

    left : Leaves (bucket_in command) (ended_by command c) (opening c) what s
    left = subst (λ (v : Scene). Leaves (bucket_in command) (ended_by command v.content) v what s) begun
        (left_by bytes z what s command did)

    pub only_at : OnlyIn (bucket_in command) (ended_by command c) c s.content
    only_at = left.only

    -- the same for the uploads that the command began
    pub ended_at : AreBelow c.buckets c.next → AreBelow s.content.buckets s.content.next → (id : ℕ) → c.next ≤ id
        → upload_at s.content (bucket_in command) id ≡ None
    ended_at first last = left.ended (below_none c (bucket_in command) first) (below_none s.content (bucket_in command) last)

    -- if the command was refused, the last content is the first
    pub undone_at : what.refused ≡ true → s.content ≡ c
    undone_at e = ap (λ (v : Scene). v.content) (left.keeps e)

  pub content_at : s.content ≡ (moment c es (length es)).content
  content_at = ap (λ (v : Scene). v.content) at_last
