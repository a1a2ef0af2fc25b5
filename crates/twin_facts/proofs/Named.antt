-- Over a whole run, what a side sent names nothing of the other's: each upload that it named was drawn by then, and what the other one
-- draws later is new.
use Rattle.text_and_lists.proofs.Naturals.{above_so}
use Rattle.job_model.specs.JobScript.{Script}
use Rattle.job_protocol.specs.Operations.{Setting}
use Rattle.job_protocol.specs.Seen.{Times, nothing_seen}
use Rattle.protocol_runs.specs.Runs.{IsOpening, Stand}
use Rattle.s3_types.specs.Moment.{effect}
use Rattle.s3_types.specs.Store.{Content, Scene}
use Rattle.s3_types.specs.declared.journal.Entry.{Entry}
use Rattle.s3_types.specs.declared.request.Request.{Request}
use Rattle.std.proofs.Common.{List, Some, ap, arith, map, nat_lt, refl, subst, sym, ℕ, [], ◌&&◌, ◌++◌, ◌<◌, ◌||◌, ◌∙◌, ◌∷◌, ◌≡◌, ◌≤◌}
use Rattle.std.proofs.Math.Bool.{or-false}
use Rattle.std.specs.List.{AllByRecursion}
use Rattle.twin_facts.proofs.Pairs.{effect_later, own_of, sends_scene, strange}
use Rattle.twin_facts.proofs.TwinRuns.{All, all_so, drew_not, drew_own, opens_first, turned, turned_opening, turned_twins}
use Rattle.twin_facts.specs.Named.{NamesNoneOfOthers}
use Rattle.twin_facts.specs.Names.{Ids, IsStranger, named_upload}
use Rattle.twin_facts.specs.Sides.{First, IsTwinOpening, Second, Sends, Side, TwinEntry, TwinRun, drawn_by, drew, drew_from, eyes}
use Rattle.twin_facts.specs.Sides.{first_begins, first_sends, is_side, observed, second_begins, second_sends, twins_begin}
use Rattle.twin_facts.specs.TwinLaws.{MayBeTwins, other_side, turned_entry}

-- ---- what was sent, by the uploads that were drawn

-- The request names only uploads below n.
abbrev Low : ℕ → Request → Type 0
Low n r = (id : ℕ) → named_upload r ≡ Some id → id < n

-- No request of this side names what belongs to the job of script v, or an upload in `ids`, and each names only uploads below n.
abbrev Fine : Side → Script → Ids → ℕ → List TwinEntry → Type 0
Fine side v ids n = AllByRecursion (λ t. t.side ≡ side → IsStranger v ids t.entry.request × Low n t.entry.request)

below : (a b c : ℕ) → a < b → b ≤ c → a < c
below a b c p q = omega arith

one_more : (side : Side) (v : Script) (ids : Ids) (n : ℕ) (es : List TwinEntry) (t : TwinEntry) → Fine side v ids n es
    → (t.side ≡ side → IsStranger v ids t.entry.request × Low n t.entry.request) → Fine side v ids n (es ++ t ∷ [])
one_more side v ids n [] t f h = (h, tt)
one_more side v ids n (u ∷ es) t f h = (f.0, one_more side v ids n es t f.1 h)

-- More uploads were drawn since, and none of them is below the earlier ones.
grown : (side : Side) (v : Script) (d e : Ids) (a b : ℕ) → a ≤ b → ((id : ℕ) → id < a → e id ≡ d id) → (es : List TwinEntry)
    → Fine side v d a es → Fine side v e b es
grown side v d e a b l same [] f = tt
grown side v d e a b l same (t ∷ es) f = (
  λ s.
      let old = f.0 s in
      let strange_still : IsStranger v e t.entry.request = record {
        keys = old.0.keys;
        uploads = λ q id is. same id (old.1 id is) ∙
            old.0.uploads q id is;
        paths = old.0.paths;
      } in
      (strange_still, λ id is. below id a b (old.1 id is) l),
  grown side v d e a b l same es f.1,
)

named_only : (side : Side) (v : Script) (ids : Ids) (n : ℕ) (es : List TwinEntry) → Fine side v ids n es → NamesNoneOfOthers side v ids es
named_only side v ids n [] f = tt
named_only side v ids n (t ∷ es) f = (λ s. (f.0 s).0, named_only side v ids n es f.1)

-- ---- every run

module _ (g h : Setting) (m : MayBeTwins g.script h.script) (k l : Times) (opening : Content) (is : IsTwinOpening g h opening) where
  opens : IsOpening g opening
  opens = opens_first g h m k l opening is

  abbrev Kept : List TwinEntry → Stand → Type 0
  Kept es x = Fine First h.script (drew Second opening es) x.seen.scene.content.next es

  by_first : (es : List TwinEntry) (x y z : Stand) (e : Entry) (n : ℕ) → All g h k l opening es x y → Sends g k x e z → Kept es x
      → Kept (es ++ record { side = First; entry = e; theirs = n } ∷ []) z
  by_first es x y z e n a sends old =
      let t : TwinEntry = record { side = First; entry = e; theirs = n } in
      let at = sends_scene g m.first is.shared_first k opening opens x z e sends in
      let later : x.seen.scene.content.next ≤ z.seen.scene.content.next = subst (λ (s : Scene). x.seen.scene.content.next ≤ s.content.next)
      (sym at) (effect_later x.seen.scene e.request e.outcome) in
      let own = own_of g m.first is.shared_first k opening opens (eyes First es) x z e sends a.pair.first in
      let low : Low z.seen.scene.content.next e.request = λ id names. below id x.seen.scene.content.next z.seen.scene.content.next
      (a.pair.low_first id (a.pair.known_first id (own.uploads id names))) later in
      let stranger : IsStranger h.script (drew Second opening es) e.request = strange m is.shared_first k l opens e n sends a.pair in
      let d = drew Second opening es in
      subst (λ ids. Fine First h.script ids z.seen.scene.content.next (es ++ t ∷ []))
      (drew_not g h m k l opening is Second First refl es e n)
      (one_more First h.script d z.seen.scene.content.next es t (grown First h.script d d x.seen.scene.content.next
      z.seen.scene.content.next later (λ id low. refl) es old) (λ s. (stranger, low)))

  by_second : (es : List TwinEntry) (x y : Stand) (e : Entry) (n : ℕ) → All g h k l opening es x y → Kept es x
      → Kept (es ++ record { side = Second; entry = e; theirs = n } ∷ []) (observed g k x n e)
  by_second es x y e n a old =
      let t : TwinEntry = record { side = Second; entry = e; theirs = n } in
      let s = x.seen.scene in
      let d = drew Second opening es in
      let now = drew Second opening (es ++ t ∷ []) in
      let same : (id : ℕ) → id < s.content.next → now id ≡ d id = λ id low.
      sym (ap (λ (f : Ids). f id) (drew_own g h m k l opening is Second refl es s a.scene e n))
      ∙ ap (λ c. d id || (c && nat_lt id (effect s e.request e.outcome).content.next)) (above_so s.content.next id low) ∙ or-false (d id) in
      one_more First h.script now (observed g k x n e).seen.scene.content.next es t
      (grown First h.script d now s.content.next (observed g k x n e).seen.scene.content.next (effect_later s e.request e.outcome) same es
      old) (λ f. absurd cc)

  pub first_kept : (es : List TwinEntry) (x y : Stand) → TwinRun g h k l opening es x y → Kept es x
  first_kept es x y (twins_begin) = tt
  first_kept es x y (first_begins fs u v b run may) = first_kept fs u v run
  first_kept es x y (second_begins fs u v b run may) = first_kept fs u v run
  first_kept es x y (first_sends fs u v z e n run sends) = by_first fs u v z e n (all_so g h m k l opening is fs u v run) sends
      (first_kept fs u v run)
  first_kept es x y (second_sends fs u v z e n run sends) = by_second fs u v e n (all_so g h m k l opening is fs u v run)
      (first_kept fs u v run)

-- ---- with the names of the sides swapped

side_turned : (s : Side) → is_side Second (other_side s) ≡ is_side First s
side_turned s = grind arith

drew_turned : (s : Scene) (es : List TwinEntry) (id : ℕ) → drew_from Second s (map turned_entry es) id ≡ drew_from First s es id
drew_turned s [] id = refl
drew_turned s (t ∷ es) id = λ i. (side_turned t.side i && drawn_by s t.entry.request t.entry.outcome id) || drew_turned
    (effect s t.entry.request t.entry.outcome) es id i

second_only : (v : Script) (ids : Ids) (n : ℕ) (es : List TwinEntry) → Fine First v ids n (map turned_entry es)
    → NamesNoneOfOthers Second v ids es
second_only v ids n [] f = tt
second_only v ids n (t ∷ es) f = (λ s. (f.0 (ap other_side s)).0, second_only v ids n es f.1)

pub named : (g h : Setting) (m : MayBeTwins g.script h.script) (k l : Times) (opening : Content) (is : IsTwinOpening g h opening)
    (es : List TwinEntry) (x y : Stand) → TwinRun g h k l opening es x y
    → NamesNoneOfOthers First h.script (drew Second opening es) es × NamesNoneOfOthers Second g.script (drew First opening es) es
named g h m k l opening is es x y run =
    let there = first_kept h g (turned_twins g h m k l opening is) l k opening (turned_opening g h m k l opening is) (map turned_entry es) y
    x (turned g h k l opening es x y run) in
    let back : drew Second opening (map turned_entry es) ≡ drew First opening es = λ i id. drew_turned (nothing_seen opening).scene es id i
    in (
      named_only First h.script (drew Second opening es) x.seen.scene.content.next es (first_kept g h m k l opening is es x y run),
      subst (λ ids. NamesNoneOfOthers Second g.script ids es) back (second_only g.script (drew Second opening (map turned_entry es))
          y.seen.scene.content.next es there),
    )
