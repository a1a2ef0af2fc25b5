use Rattle.object_store.proofs.Flat.{follows_rest, no_more, none_left, taken}
use Rattle.object_store.specs.inner.Flat.{Follows, below, single}
use Rattle.object_store.specs.inner.Held.{AreOwn}
use Rattle.object_store.specs.declared.objects.Held.{Held}
use Rattle.s3_types.specs.Pages.{begins}
use Rattle.s3_types.specs.declared.reply.PageEntry.{PageEntry}
use Rattle.std.proofs.Common.{List, ap, append_assoc, cond, false, map, rules, subst, sym, true, ℕ, [], ◌++◌, ◌∙◌, ◌∷◌, ◌≡◌}
use Rattle.std.specs.List.{filter}
use Rattle.object_store.proofs.page.flat_page.Goals as goal

pub returns-then-not-starts_with-clause-entries : goal.returns-then-not-starts_with-clause-entries
returns-then-not-starts_with-clause-entries c =
    let n : begins c.args.prefix.now c.in-Some.text.now ≡ false = cc in
    let none = none_left c.args.prefix.now c.loop-text.rest c.next.new.self (c.in-Some.text.now, c.in-Some.held.now) c.in-Some.ensures.steps
    c.loop-text.invariant.follows n in
    c.page_of.ensures.entries
    ∙ taken c.args.limit c.loop-text.entries.items _ (below c.args.prefix.now c.args.rest) c.loop-text.invariant.told none
    c.loop-text.invariant.fits

pub returns-then-not-starts_with-clause-more : goal.returns-then-not-starts_with-clause-more
returns-then-not-starts_with-clause-more c =
    let n : begins c.args.prefix.now c.in-Some.text.now ≡ false = cc in
    let none = none_left c.args.prefix.now c.loop-text.rest c.next.new.self (c.in-Some.text.now, c.in-Some.held.now) c.in-Some.ensures.steps
    c.loop-text.invariant.follows n in
    c.page_of.ensures.more
    ∙ no_more c.args.limit c.loop-text.entries.items _ (below c.args.prefix.now c.args.rest) c.loop-text.invariant.told none
    c.loop-text.invariant.fits

pub loop-text-preserved : goal.loop-text-preserved
loop-text-preserved c =
    let e : List ℕ × Held = (c.in-Some.text.now, c.in-Some.held.now) in
    let is : c.loop-text.rest ≡ e ∷ c.next.new.self = c.in-Some.ensures.steps in
    let n : begins c.args.prefix.now c.in-Some.text.now ≡ true = cc in
    let f : Follows c.args.prefix.now (e ∷ c.next.new.self) = subst (Follows c.args.prefix.now) is c.loop-text.invariant.follows in
    let o : AreOwn (e ∷ c.next.new.self) = subst AreOwn is c.loop-text.invariant.own in
    let same : c.in_ok-single.field-0 ≡ single e.0 e.1 = c.in_ok-single.ensures ∙ ap (λ k. single k e.1) o.0 in
    let left : List PageEntry = below c.args.prefix.now c.next.new.self in
    let rest : List (List ℕ × Held) = filter (λ e. begins c.args.prefix.now e.0) c.next.new.self in
    record {
      told =
          ap (λ l. l ++ left) c.in_ok-push.ensures.items
          ∙ append_assoc c.loop-text.entries.items (_ ∷ []) left
          ∙ ap (λ r. c.loop-text.entries.items ++ (r ∷ left)) same
          ∙ ap (λ b. c.loop-text.entries.items ++ map (λ (e : List ℕ × Held). single e.0 e.1) (cond b (e ∷ rest) rest)) (sym n)
          ∙ ap (λ (l : List (List ℕ × Held)). c.loop-text.entries.items ++ below c.args.prefix.now l) (sym is)
          ∙ c.loop-text.invariant.told;
      follows = follows_rest c.args.prefix.now e c.next.new.self f;
      own = o.1;
      fits = search rules;
    }
