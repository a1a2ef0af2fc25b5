use Rattle.multipart.proofs.Follow.{follows_rest, no_more, none_left, taken}
use Rattle.multipart.specs.inner.Listing.{AreOwn, Follows, below}
use Rattle.s3_types.specs.Pages.{begins}
use Rattle.s3_types.specs.declared.request.UploadRef.{UploadRef}
use Rattle.std.proofs.Common.{List, ap, append_assoc, cond, false, rules, subst, sym, true, ℕ, [], ◌++◌, ◌∙◌, ◌∷◌, ◌≡◌}
use Rattle.std.specs.Map.{keys_of}
use Rattle.multipart.proofs.list.add_uploads.Goals as goal

pub returns-then-not-starts_with-clause-entries : goal.returns-then-not-starts_with-clause-entries
returns-then-not-starts_with-clause-entries c =
    let k : c.place.inside.text ≡ c.in-Some.place.now.key = ap (λ (r : UploadRef). r.key) c.place.view_is in
    let n : begins c.args.prefix.now c.in-Some.place.now.key ≡ false = cc in
    let none = none_left c.args.prefix.now c.loop-place.rest c.next.new.self (c.in-Some.place.now, c.in-Some.key.now)
    c.in-Some.ensures.steps c.loop-place.invariant.follows n in
    taken c.args.limit c.loop-place.entries.items _ (below c.args.prefix.now (keys_of c.args.rest)) c.loop-place.invariant.told none
    c.loop-place.invariant.fits

pub returns-then-not-starts_with-clause-more : goal.returns-then-not-starts_with-clause-more
returns-then-not-starts_with-clause-more c =
    let k : c.place.inside.text ≡ c.in-Some.place.now.key = ap (λ (r : UploadRef). r.key) c.place.view_is in
    let n : begins c.args.prefix.now c.in-Some.place.now.key ≡ false = cc in
    let none = none_left c.args.prefix.now c.loop-place.rest c.next.new.self (c.in-Some.place.now, c.in-Some.key.now)
    c.in-Some.ensures.steps c.loop-place.invariant.follows n in
    no_more c.args.limit c.loop-place.entries.items _ (below c.args.prefix.now (keys_of c.args.rest)) c.loop-place.invariant.told none
    c.loop-place.invariant.fits

pub loop-place-preserved : goal.loop-place-preserved
loop-place-preserved c =
    let e : c.loop-place.rest ≡ (c.in-Some.place.now, c.in-Some.key.now) ∷ c.next.new.self = c.in-Some.ensures.steps in
    let k : c.place.inside.text ≡ c.in-Some.place.now.key = ap (λ (r : UploadRef). r.key) c.place.view_is in
    let n : begins c.args.prefix.now c.in-Some.place.now.key ≡ true = cc in
    let f : Follows c.args.prefix.now (c.in-Some.place.now ∷ keys_of c.next.new.self) = subst
    (λ (l : List (UploadRef × List ℕ)). Follows c.args.prefix.now (keys_of l)) e c.loop-place.invariant.follows in
    let o : AreOwn ((c.in-Some.place.now, c.in-Some.key.now) ∷ c.next.new.self) = subst AreOwn e c.loop-place.invariant.own in
    let same : record { key = c.in-Some.key.now; upload = c.place.inside.upload } ≡ c.in-Some.place.now =
    (λ i. record { key = o.0 i; upload = (ap (λ (r : UploadRef). r.upload) c.place.view_is) i }) in
    let left : List UploadRef = below c.args.prefix.now (keys_of c.next.new.self) in
    record {
      told =
          ap (λ l. l ++ left) c.in_ok-add_upload.ensures.added
          ∙ append_assoc c.loop-place.entries.items (_ ∷ []) left
          ∙ ap (λ r. c.loop-place.entries.items ++ (r ∷ left)) same
          ∙ ap (λ b. c.loop-place.entries.items ++ cond b (c.in-Some.place.now ∷ left) left) (sym n)
          ∙ ap (λ (l : List (UploadRef × List ℕ)). c.loop-place.entries.items ++ below c.args.prefix.now (keys_of l)) (sym e)
          ∙ c.loop-place.invariant.told;
      follows = follows_rest c.args.prefix.now c.in-Some.place.now (keys_of c.next.new.self) f;
      own = o.1;
      fits = search rules;
    }
