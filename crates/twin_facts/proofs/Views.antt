-- Each step of either job keeps what readers of their destination may rely on.
use Rattle.text_and_lists.proofs.Members.{false_true, none_or_some, none_some, some_is, true_or_false}
use Rattle.text_and_lists.specs.Members.{IsIn}
use Rattle.job_invariant.proofs.FilePaths.{file_path}
use Rattle.job_invariant.proofs.FilingLaws.{stranger_same}
use Rattle.job_invariant.proofs.Wanted.{wanted_of}
use Rattle.job_invariant.specs.Filed.{whole_of}
use Rattle.job_model.specs.JobScript.{Script}
use Rattle.job_model.specs.Legal.{IsLegal}
use Rattle.job_protocol.proofs.Begun.{clean_of_so}
use Rattle.job_protocol.specs.JobCommits.{Commit, Marking}
use Rattle.job_protocol.specs.Operations.{Setting, TheCommit, clean_of}
use Rattle.job_protocol.specs.Outputs.{Picks, is_clash, is_decided, is_picked, wanted_at}
use Rattle.job_protocol.specs.Records.{mark_text}
use Rattle.job_protocol.specs.Seen.{Times, is_marking}
use Rattle.job_protocol.specs.View.{is_file_path, view}
use Rattle.job_spec.specs.Ends.{is_driver}
use Rattle.protocol_runs.proofs.Entries.{late_now}
use Rattle.protocol_runs.proofs.EveryRun.{just_idle, just_set}
use Rattle.protocol_runs.specs.Runs.{BeginClean, BeginCommit, BeginSetup, Beginning, IsOpening, MayBegin, Runs, Stand, begin, is_just_set}
use Rattle.magic_paths.specs.Layout.{success_key}
use Rattle.path_keys.specs.Paths.{Path}
use Rattle.s3_types.specs.Answer.{bucket_of}
use Rattle.s3_types.specs.Moment.{effect, is_effective}
use Rattle.s3_types.specs.Store.{Content, Scene}
use Rattle.s3_types.specs.declared.journal.Entry.{Entry}
use Rattle.s3_types.specs.declared.object.Object.{Object}
use Rattle.s3_types.specs.declared.request.Request.{Request}
use Rattle.std.proofs.Common.{Bool, List, None, Option, Some, ap, arith, cond, false, inl, inr, not, refl, subst, sym, true, ℕ, ◌∙◌, ◌≡◌}
use Rattle.std.proofs.Common.{◌⊎◌}
use Rattle.std.proofs.lemmas.Bool.{and_parts, not-true}
use Rattle.std.specs.Option.{option_map}
use Rattle.store_frame.specs.Frame.{changed_keys}
use Rattle.store_frame.specs.Held.{HasBucket}
use Rattle.twin_facts.proofs.Steps.{FileAt, Leaves, count, mark_at, obj}
use Rattle.twin_facts.specs.Sides.{observed}
use Rattle.twin_facts.specs.TwinLaws.{Gives, counted}

-- ---- paths

-- The object at a path is that of the opening; or the path is wanted, and there is the whole wanted file or none.
abbrev pub One : Path → Content → Content → (List ℕ → Option (List ℕ)) → (List ℕ → Option (List ℕ)) → List ℕ → Type 0
One d opening c mine others q = (obj d c q ≡ obj d opening q)
    ⊎ ((b : List ℕ) × ((mine q ≡ Some b) ⊎ (others q ≡ Some b)) × ((obj d c q ≡ Some (whole_of b)) ⊎ (obj d c q ≡ None)))

-- While its commit goes on, its wanted files that the other side is not bound to write are as the commit says.
abbrev pub FilesAt : Setting → Path → Content → Content → Stand → (List ℕ → Option (List ℕ)) → Type 0
FilesAt g d opening c x others = (p : Commit) → x.driver ≡ Some (TheCommit p) → (q b : List ℕ) → is_file_path q ≡ true
    → wanted_at g.script x.seen.picks q ≡ Some b → others q ≡ None → FileAt g x q b (obj d opening q) (obj d c q) p

-- What holds of one side at a destination, by what the other side is bound to write.
pub record SideViews (g : Setting) (d : Path) (opening c : Content) (x : Stand) (others : List ℕ → Option (List ℕ)) (marked : Bool) : Type 0
  where
    -- Before its commit begins it has no picks.
    pub unpicked : x.seen.begun ≡ false → (t : ℕ) → x.seen.picks t ≡ None
    -- Once it has put the marker, all its files exist that the other side is not bound to write.
    pub stood : x.seen.put_mark ≡ true → (is_decided g.script x.seen.picks ≡ true)
        × ((q b : List ℕ) → is_file_path q ≡ true → count g x q ≡ Some b → others q ≡ None → obj d c q ≡ Some (whole_of b))
    pub files : FilesAt g d opening c x others
    -- If the marker is its own, the marker says what was wanted.
    pub says : marked ≡ true → (x.seen.put_mark ≡ true)
        × ((o : Object) × (mark_at d c ≡ Some o) × (o.bytes ≡ mark_text g.script x.seen.picks))

pub record Views (g h : Setting) (d : Path) (opening c : Content) (x y : Stand) (first second : Bool) : Type 0 where
  pub one : (q : List ℕ) → is_file_path q ≡ true → One d opening c (count g x) (count h y) q
  pub mine : SideViews g d opening c x (count h y) first
  pub others : SideViews h d opening c y (count g x) second

pub views_swap : {g h : Setting} {d : Path} {opening c : Content} {x y : Stand} {first second : Bool}
    → Views g h d opening c x y first second → Views h g d opening c y x second first
views_swap e = grind arith

-- The bytes that a side is bound to write are decided and wanted.
counted_is : (w : Script) (p : Picks) (q b : List ℕ) → counted w p q ≡ Some b → (is_decided w p ≡ true) × (wanted_at w p q ≡ Some b)
counted_is w p q b h = grind arith

-- ---- one entry of the first side

-- The request changes the object at the marker's key.
abbrev pub Touches : Path → Request → Type 0
Touches d r = (bucket_of r ≡ d.bucket) × IsIn (success_key d.key) (changed_keys r)

module _ (g h : Setting) (j : IsLegal g.script) (opening : Content) (x y z : Stand) (e : Entry) (l : Leaves g x z e)
    (there : HasBucket x.seen.scene.content g.script.dest.bucket) where
  abbrev w : Script
  w = g.script

  abbrev d : Path
  d = g.script.dest

  abbrev s : Scene
  s = x.seen.scene

  abbrev u : Scene
  u = effect s e.request e.outcome

  -- What was decided stays decided.
  still_picks : is_decided w x.seen.picks ≡ true → z.seen.picks ≡ x.seen.picks
  still_picks dec = elim l.picks [ inl same ↦ same | inr un ↦ absurd (false_true un dec) ]

  still_counted : (q b : List ℕ) → count g x q ≡ Some b → count g z q ≡ Some b
  still_counted q b c = ap (λ p. counted w p q) (still_picks (counted_is w x.seen.picks q b c).0) ∙ c

  not_counted : (q : List ℕ) → count g z q ≡ None → count g x q ≡ None
  not_counted q n = elim (none_or_some (count g x q)) [ inl none ↦ none | inr b ↦ absurd (none_some n (still_counted q b.0 b.1)) ]

  one_now : (q : List ℕ) → is_file_path q ≡ true → One d opening s.content (count g x) (count h y) q
      → One d opening u.content (count g z) (count h y) q
  one_now q path old = elim (l.shows q path) [
    | inr n ↦ inr (n.0, inl (still_counted q n.0 n.1), n.2)
    | inl same ↦ elim old [
      | inl was ↦ inl (same ∙ was)
      | inr o ↦ inr (
        o.0,
        elim o.1 [ inl a ↦ inl (still_counted q o.0 a) | inr a ↦ inr a ],
        elim o.2
            [ inl a ↦ inl (same ∙ a) | inr a ↦ inr (same ∙ a) ],
      )
    ]
  ]

  -- The first side leaves each path that it does not want as it is.
  left_alone : (q : List ℕ) → is_file_path q ≡ true → count g z q ≡ None → obj d u.content q ≡ obj d s.content q
  left_alone q path none = elim (l.shows q path) [ inl same ↦ same | inr n ↦ absurd (none_some (not_counted q none) n.1) ]

  -- ---- the marker

  -- A request that does not take effect, or does not touch the marker, leaves it.
  mark_left : ((is_effective e.outcome ≡ true) → Touches d e.request → ⊥) → mark_at d u.content ≡ mark_at d s.content
  mark_left = grind (arith, mark_at, stranger_same)

  -- ---- its own side

  own_now : (marked now : Bool) → (now ≡ true → ((is_effective e.outcome ≡ true) × (is_driver e.actor ≡ true)
      × (is_marking w e.request ≡ true)) ⊎ ((marked ≡ true) × ((is_effective e.outcome ≡ true) → Touches d e.request → ⊥)))
      → ((q : List ℕ) → is_file_path q ≡ true → One d opening s.content (count g x) (count h y) q)
      → SideViews g d opening s.content x (count h y) marked → SideViews g d opening u.content z (count h y) now
  own_now marked now said one v = record {
    unpicked = λ b t. let c = l.unbegun b in ap (λ p. p t) c.1 ∙ v.unpicked c.0 t;
    stood = λ put. elim (true_or_false x.seen.put_mark) [
      | inl before ↦
          let old = v.stood before in
          let same = still_picks old.0 in (
            ap (is_decided w) same ∙ old.0,
            λ q b path c none. (l.put_still before).1 q path ∙ old.1 q b path (ap (λ p. counted w p q) (sym same) ∙ c) none,
          )
      | inr not_before ↦
          let n = l.put_now not_before put in (
            ap (is_decided w) n.3 ∙ n.4,
            λ q b path c none. n.5 q path ∙ v.files (Marking n.0 n.1) n.2 q b path
                (counted_is w x.seen.picks q b (ap (λ p. counted w p q) (sym n.3) ∙ c)).1 none,
          )
    ];
    files = λ p is q b path want none. l.files p is q b (obj d opening q) path want
        (λ un. elim (one q path) [
          | inl same ↦ same
          | inr o ↦ absurd (elim o.1 [ inl a ↦ false_true un (counted_is w x.seen.picks q o.0 a).0 | inr a ↦ none_some none a ])
        ])
        (λ t at_it old. v.files t at_it q b path old none);
    says = λ m. elim (said m) [
      | inl a ↦ l.marks a.1 a.2 a.0
      | inr a ↦
          let old = v.says a.0 in
          let dec = (v.stood old.0).0 in
          ((l.put_still old.0).0, (old.1.0, mark_left a.1 ∙ old.1.1, old.1.2 ∙ ap (mark_text w) (sym (still_picks dec))))
    ];
  }

  -- ---- the other side, which sent nothing

  other_now : (marked now : Bool) → (now ≡ true → (marked ≡ true) × ((is_effective e.outcome ≡ true) → Touches d e.request → ⊥))
      → (k : Times) (n : ℕ) → SideViews h d opening s.content y (count g x) marked
      → SideViews h d opening u.content (observed h k y n e) (count g z) now
  other_now marked now said k n v = record {
    unpicked = v.unpicked;
    stood = λ put. let old = v.stood put in (old.0, λ q b path c none. left_alone q path none ∙ old.1 q b path c (not_counted q none));
    files = λ p is q b path want none. subst (λ t. FileAt h y q b (obj d opening q) t p) (sym (left_alone q path none))
        (v.files p is q b path want (not_counted q none));
    says = λ m. let a = said m in let old = v.says a.0 in (old.0, (old.1.0, mark_left a.1 ∙ old.1.1, old.1.2));
  }

-- ---- what begins

pub begins_views : (g h : Setting) (k : Times) (start : Content) (j : IsLegal g.script) (is : IsOpening g start) (es : List Entry)
    (d : Path) (opening c : Content) (x y : Stand) (first second : Bool) (b : Beginning) → MayBegin g x b → Runs g k start es x
    → Views g h d opening c x y first second → Views g h d opening c (begin g x b) y first second
begins_views g h k start j is es d opening c x y first second b may run v = record {
  one = v.one;
  mine = record { unpicked = v.mine.unpicked; stood = v.mine.stood; files = files_by b may; says = v.mine.says };
  others = v.others;
}
  where
    -- A commit begins without picks.
    unpicked : is_just_set x.driver ≡ true → (t : ℕ) → x.seen.picks t ≡ None
    unpicked just = (just_idle g k start j is x.driver x.seen x.told (late_now g k start j is es x run (just_set x.driver just)).driver
        just).unpicked

    no_commit : (p : Commit) → Some (clean_of g) ≡ Some (TheCommit p) → ⊥
    no_commit p = clean_of_so g (λ op. Some op ≡ Some (TheCommit p) → ⊥) (λ e. absurd cc) (λ e. absurd cc)

    files_by : (b : Beginning) → MayBegin g x b → FilesAt g d opening c (begin g x b) (count h y)
    files_by BeginSetup may = λ p is. absurd cc
    files_by (BeginCommit reports) may = λ p is q b path want none. (let z = wanted_of g.script x.seen.picks q b want in absurd
        (none_some (unpicked may z.from.task) z.from.picked))
    files_by BeginClean may = λ p is. absurd (no_commit p is)
    files_by _ may = v.mine.files

-- ---- one entry

pub entry_views : (g h : Setting) → IsLegal g.script → (opening : Content) (x y z : Stand) (e : Entry) → Leaves g x z e
    → HasBucket x.seen.scene.content g.script.dest.bucket → (k : Times) (n : ℕ) (first second now then : Bool)
    → (now ≡ true → ((is_effective e.outcome ≡ true) × (is_driver e.actor ≡ true) × (is_marking g.script e.request ≡ true))
    ⊎ ((first ≡ true) × ((is_effective e.outcome ≡ true) → Touches g.script.dest e.request → ⊥)))
    → (then ≡ true → (second ≡ true) × ((is_effective e.outcome ≡ true) → Touches g.script.dest e.request → ⊥))
    → Views g h g.script.dest opening x.seen.scene.content x y first second
    → Views g h g.script.dest opening (effect x.seen.scene e.request e.outcome).content z (observed h k y n e) now then
entry_views g h j opening x y z e l there k n first second now then said says v = record {
  one = λ q path. one_now g h j opening x y z e l there q path (v.one q path);
  mine = own_now g h j opening x y z e l there first now said v.one v.mine;
  others = other_now g h j opening x y z e l there second then says k n v.others;
}

-- ---- what readers see

module _ {g h : Setting} {d : Path} {opening c : Content} {x y : Stand} {first second : Bool} (v : Views g h d opening c x y first second)
  where
    shown_is : (e : Content) (q : List ℕ) → is_file_path q ≡ true → view d e q ≡ option_map (λ (b : Object). b.bytes) (obj d e q)
    shown_is e q path = ap (λ b. cond b (option_map (λ (o : Object). o.bytes) (obj d e q)) None) path

    is_shown : (e : Content) (q b : List ℕ) → view d e q ≡ Some b → is_file_path q ≡ true
    is_shown e q b has = elim (true_or_false (is_file_path q)) [
      | inl path ↦ path
      | inr none ↦ absurd (none_some (ap (λ t. cond t (option_map (λ (o : Object). o.bytes) (obj d e q)) None) none) has)
    ]

    shown_by : (e : Content) (q : List ℕ) → is_file_path q ≡ true → (o : Option Object) → obj d e q ≡ o
        → view d e q ≡ option_map (λ (b : Object). b.bytes) o
    shown_by e q path o is = shown_is e q path ∙ ap (λ t. option_map (λ (b : Object). b.bytes) t) is

    unbegun_none : (f : Setting) (z : Stand) → (z.seen.begun ≡ false → (t : ℕ) → z.seen.picks t ≡ None) → (q b : List ℕ)
        → counted f.script z.seen.picks q ≡ Some b → z.seen.begun ≡ true
    unbegun_none f z h q b g = grind arith

    pub views_only : (q b : List ℕ) → view d c q ≡ Some b → (view d opening q ≡ Some b)
        ⊎ (Gives g.script x.seen q b ⊎ Gives h.script y.seen q b)
    views_only q b has =
        let path = is_shown c q b has in
        elim (v.one q path) [
          | inl same ↦ inl (shown_is opening q path ∙ ap (λ o. option_map (λ (a : Object). a.bytes) o) (sym same) ∙ sym (shown_is c q path)
              ∙
              has)
          | inr o ↦ elim o.2 [
            | inr gone ↦ absurd (none_some refl (sym (shown_by c q path None gone) ∙ has))
            | inl whole ↦
                let is : o.0 ≡ b = some_is (sym (shown_by c q path (Some (whole_of o.0)) whole) ∙ has) in
                inr (elim o.1 [
                  | inl a ↦ (let has = a ∙ ap (λ t. Some t) is in inl (unbegun_none g x v.mine.unpicked q b has, has))
                  | inr a ↦ (let has = a ∙ ap (λ t. Some t) is in inr (unbegun_none h y v.others.unpicked q b has, has))
                ])
          ]
        ]

    pub views_kept : (q b : List ℕ) → view d opening q ≡ Some b → count g x q ≡ None → count h y q ≡ None → view d c q ≡ Some b
    views_kept q b has none nor =
        let path = is_shown opening q b has in
        elim (v.one q path) [
          | inl same ↦ shown_is c q path ∙ ap (λ o. option_map (λ (a : Object). a.bytes) o) same ∙ sym (shown_is opening q path) ∙ has
          | inr o ↦ absurd (elim o.1 [ inl a ↦ none_some none a | inr a ↦ none_some nor a ])
        ]

    pub views_marked : IsLegal g.script → first ≡ true → (is_picked g.script x.seen.picks ≡ true) × (is_clash g.script x.seen.picks ≡ false)
        × ((q b : List ℕ) → wanted_at g.script x.seen.picks q ≡ Some b → count h y q ≡ None → view d c q ≡ Some b)
        × ((o : Object) × (mark_at d c ≡ Some o) × (o.bytes ≡ mark_text g.script x.seen.picks))
    views_marked j is =
        let a = v.mine.says is in
        let b = v.mine.stood a.0 in
        let parts = and_parts (is_picked g.script x.seen.picks) (not (is_clash g.script x.seen.picks)) b.0 in (
          parts.0,
          not-true (is_clash g.script x.seen.picks) parts.1,
          (λ q u want none.
              let z = wanted_of g.script x.seen.picks q u want in
              let path : is_file_path q ≡ true = ap is_file_path z.path ∙ file_path j _ z.file z.from.mine in
              shown_by c q path (Some (whole_of u)) (b.1 q u path (ap (λ t. cond t (wanted_at g.script x.seen.picks q) None) b.0 ∙ want)
              none)),
          a.1,
        )
