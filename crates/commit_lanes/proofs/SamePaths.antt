-- The path that two chosen attempts write is that of the key that the search finds.
use Rattle.text_and_lists.proofs.Less.{equal_self}
use Rattle.text_and_lists.proofs.Members.{false_true}
use Rattle.text_and_lists.specs.Order.{text_cmp, text_total}
use Rattle.commit_lanes.proofs.Numbers.{three}
use Rattle.commit_lanes.proofs.ReadFiles.{at_item, files_at, has_in, in_has, item_at}
use Rattle.commit_lanes.specs.Apart.{end_of}
use Rattle.commit_lanes.specs.Clashes.{IsBest, IsClash, Item, items_from}
use Rattle.commit_lanes.specs.ReadSets.{AreRead}
use Rattle.commit_lanes.specs.Relatives.{relative_of}
use Rattle.commit_lanes.specs.declared.sharing.Clash.{Clash}
use Rattle.job_model.specs.Files.{File, has_path}
use Rattle.job_model.specs.Jobs.{Job}
use Rattle.job_model.specs.declared.ends.CommitEnd.{CommitEnd}
use Rattle.job_model.specs.declared.ends.CommitEnd.TheVariants.{SamePath}
use Rattle.job_protocol.proofs.Shared.{shared_found, shared_none}
use Rattle.job_protocol.specs.AtWork.{read_script}
use Rattle.job_protocol.specs.JobCommits.{Sets, picks_of}
use Rattle.job_protocol.specs.LaneTable.{In}
use Rattle.job_protocol.specs.OperationLaws.{IsShared}
use Rattle.job_protocol.specs.Outputs.{files_picked, same_path, writes}
use Rattle.path_keys.specs.Paths.{Path, below, relative_in}
use Rattle.pending_json.specs.Pending.{Pending}
use Rattle.pending_json.specs.declared.records.PendingSet.{PendingSet}
use Rattle.std.proofs.Common.{Bool, List, None, Option, Some, ap, arith, cond, drop, false, inl, inr, is_some, length, nat_eq, refl}
use Rattle.std.proofs.Common.{slice_get, subst, suc, sym, take, true, ℕ, [], ◌++◌, ◌+◌, ◌<◌, ◌∙◌, ◌∷◌, ◌≡◌}
use Rattle.std.proofs.lemmas.Cmp.{nat_cmp_total}
use Rattle.std.proofs.lemmas.List.{take-append-drop}
use Rattle.std.proofs.lemmas.Option.{slice_get_within}
use Rattle.std.specs.Cmp.Lexicographic.{bytes_decides}
use Rattle.std.specs.FinMap.{nat_cmp-IsAntisymmetric, slice_cmp-IsAntisymmetric}
use Rattle.std.specs.List.{starts_with}
use Rattle.std.specs.Option.{option_map, unwrap_or}
use Rattle.std.specs.Ordering.{is_lt, nat_cmp, ordering_reverse, ordering_then}
use Rattle.std.specs.declared.cmp.Ordering.{Ordering}
use Rattle.std.specs.declared.cmp.Ordering.TheVariants.{Equal, Greater, Less}

-- ---- keys below a destination

split_by : (pre text : List ℕ) (b : Bool) → starts_with nat_eq text pre ≡ b → is_some (cond b (Some (drop (length pre) text)) None) ≡ true
    → text ≡ pre ++ unwrap_or (cond b (Some (drop (length pre) text)) None) []
split_by pre text true e h = let same : pre ≡ take (length pre) text = (bytes_decides pre (take (length pre) text)).0 e in sym
    (take-append-drop (length pre) text) ∙ ap (λ v. v ++ drop (length pre) text) (sym same)
split_by pre text false e h = absurd (cc)

-- A key below a destination is the destination's prefix followed by its path.
pub key_parts : (dest : Path) (key : List ℕ) → is_some (relative_in dest.key key) ≡ true → key ≡ below dest.key [] ++ relative_of dest key
key_parts dest key h = split_by (below dest.key []) key (starts_with nat_eq key (below dest.key [])) refl h

-- A common prefix does not change the order of two texts.
front_cmp : (pre p q : List ℕ) → text_cmp (pre ++ p) (pre ++ q) ≡ text_cmp p q
front_cmp [] p q = refl
front_cmp (x ∷ pre) p q = ap (λ o. ordering_then o (text_cmp (pre ++ p) (pre ++ q))) (equal_self (nat_cmp x x) (nat_cmp_total.antisymm x x))
    ∙ front_cmp pre p q

neither_by : (p q : List ℕ) (o : Ordering) → text_cmp p q ≡ o → is_lt (text_cmp p q) ≡ false → is_lt (text_cmp q p) ≡ false → p ≡ q
neither_by p q Less e f g = absurd (false_true f (ap is_lt e))
neither_by p q Equal e f g = slice_cmp-IsAntisymmetric nat_cmp-IsAntisymmetric p q e
neither_by p q Greater e f g = absurd (false_true g (ap is_lt (text_total.antisymm q p ∙ ap ordering_reverse e)))

-- ---- who writes what

in_get : (cs : List Pending) (c : Pending) → In c cs → (n : ℕ) × (slice_get cs n ≡ Some c)
in_get [] c h = absurd h
in_get (d ∷ cs) c (inl e) = (0, ap Some e)
in_get (d ∷ cs) c (inr i) = let r = in_get cs c i in (suc r.0, r.1)

record Writes (j : Job) (sets : Sets) (p : List ℕ) (t : ℕ) : Type 0 where
  pub within : t < length sets
  pub item : In (let i : Item = (below j.dest.key [] ++ p, t) in i) (items_from 0 sets)

writes_by : (j : Job) (sets : Sets) (p : List ℕ) (t : ℕ) (o : Option PendingSet) → slice_get sets t ≡ o → AreRead j sets
    → has_path (files_picked (read_script j sets) t (option_map (λ s. s.attempt) o)) p ≡ true → Writes j sets p t
writes_by j sets p t None e each h = absurd (false_true refl h)
writes_by j sets p t (Some s) e each h =
    let F : List File → Type 0 = λ v. has_path v p ≡ true in
    let O : Option PendingSet → Type 0 = λ v. files_picked (read_script j sets) t (option_map (λ (x : PendingSet). x.attempt) v) ≡
    files_picked (read_script j sets) t (picks_of sets t) in
    let same : files_picked (read_script j sets) t (Some s.attempt) ≡ files_picked (read_script j sets) t (picks_of sets t) = subst O e refl
    in
    let r = has_in j.dest s.commits p (subst F (same ∙ files_at j sets t s each e) h) in
    let g = in_get s.commits r.0 r.1 in
    let parts = key_parts j.dest r.0.destination ((each t s e).below g.0 r.0 g.1) in
    let key : r.0.destination ≡ below j.dest.key [] ++ p = parts ∙ ap (λ v. below j.dest.key [] ++ v) r.2 in
    let z : 0 + t ≡ t = omega arith in
    let P : List ℕ → Type 0 = λ k. In (let i : Item = (k, 0 + t) in i) (items_from 0 sets) in
    let T : ℕ → Type 0 = λ n. In (let i : Item = (below j.dest.key [] ++ p, n) in i) (items_from 0 sets) in
    record { within = slice_get_within sets t s e; item = subst T z (subst P key (at_item 0 sets t s r.0 e r.1)) }

-- A file of a chosen attempt is an item.
writes_item : (j : Job) (sets : Sets) (p : List ℕ) (t : ℕ) → AreRead j sets → writes (read_script j sets) (picks_of sets) p t ≡ true
    → Writes j sets p t
writes_item j sets p t each h = writes_by j sets p t (slice_get sets t) refl each h

pub record Written (j : Job) (sets : Sets) (k : List ℕ) (t : ℕ) : Type 0 where
  pub within : t < length sets
  pub key : k ≡ below j.dest.key [] ++ relative_of j.dest k
  pub writes_it : writes (read_script j sets) (picks_of sets) (relative_of j.dest k) t ≡ true

-- An item is a file of a chosen attempt.
pub item_writes : (j : Job) (sets : Sets) (k : List ℕ) (t : ℕ) → AreRead j sets → In (let i : Item = (k, t) in i) (items_from 0 sets)
    → Written j sets k t
item_writes j sets k t each h =
    let r = item_at 0 sets k t h in
    let z : t ≡ r.0 = (let e : t ≡ 0 + r.0 = r.3 in omega arith) in
    let at : slice_get sets t ≡ Some r.1 = ap (slice_get sets) z ∙ r.4 in
    let g = in_get r.1.commits r.2 r.5 in
    let K : List ℕ → Type 0 = λ v. v ≡ below j.dest.key [] ++ relative_of j.dest v in
    let W : List ℕ → Type 0 = λ v. has_path (files_picked (read_script j sets) t (picks_of sets t)) (relative_of j.dest v) ≡ true in
    let F : List File → Type 0 = λ v. has_path v (relative_of j.dest r.2.destination) ≡ true in
    record {
      within = slice_get_within sets t r.1 at;
      key = subst K r.6 (key_parts j.dest r.2.destination ((each t r.1 at).below g.0 r.2 g.1));
      writes_it = subst W r.6 (subst F (sym (files_at j sets t r.1 each at)) (in_has j.dest r.1.commits r.2 r.5));
    }

-- ---- one least path, with one pair of least tasks

record Pair (w : ℕ → Bool) (t u : ℕ) : Type 0 where
  pub order : t < u
  pub first : w t ≡ true
  pub last : w u ≡ true
  pub least : (v : ℕ) → v < u → w v ≡ true → v ≡ t

last_not : (w : ℕ → Bool) (t u v x : ℕ) → Pair w t u → Pair w v x → u < x → ⊥
last_not w t u v x h g e = grind arith

one_last : (w : ℕ → Bool) (t u v x : ℕ) → Pair w t u → Pair w v x → u ≡ x
one_last w t u v x p q = elim (three u x) [
  | inl l ↦ absurd (last_not w t u v x p q l)
  | inr r ↦ elim r [ inl e ↦ e | inr l ↦ absurd (last_not w v x t u q p l) ]
]

one_first : (w : ℕ → Bool) (t u v x : ℕ) → Pair w t u → Pair w v x → t ≡ v
one_first w t u v x p q = let l : t < u = p.order in let e : u ≡ x = one_last w t u v x p q in q.least t (omega arith) p.first

-- ---- the end

clash_ends : (j : Job) (sets : Sets) (c : Clash) (e : CommitEnd) → AreRead j sets → length sets ≡ j.tasks
    → IsBest (items_from 0 sets) (Some c)
    → ((p : List ℕ) × (t : ℕ) × (u : ℕ) × (e ≡ SamePath p t u) × IsShared (read_script j sets) (picks_of sets) p t u)
    → SamePath (relative_of j.dest c.key) c.first c.second ≡ e
clash_ends j sets c e each all b s =
    let pre = below j.dest.key [] in
    let p = relative_of j.dest c.key in
    let h : IsClash (items_from 0 sets) c.key c.first c.second = b in
    let f = item_writes j sets c.key c.first each h.first in
    let g = item_writes j sets c.key c.second each h.second in
    let a = writes_item j sets s.0 s.1 each s.4.writes_first in
    let z = writes_item j sets s.0 s.2 each s.4.writes_last in
    let in_tasks : c.second < j.tasks = (let l : c.second < length sets = g.within in omega arith) in
    let one : is_lt (text_cmp p s.0) ≡ false = s.4.least_path p c.first c.second h.order in_tasks f.writes_it g.writes_it in
    let two : is_lt (text_cmp (pre ++ s.0) c.key) ≡ false = h.least_key (pre ++ s.0) s.1 s.2 s.4.first a.item z.item in
    let K : List ℕ → Type 0 = λ k. is_lt (text_cmp (pre ++ s.0) k) ≡ false in
    let third : is_lt (text_cmp s.0 p) ≡ false = ap is_lt (sym (front_cmp pre s.0 p)) ∙ subst K f.key two in
    let same : p ≡ s.0 = neither_by p s.0 (text_cmp p s.0) refl one third in
    let w = writes (read_script j sets) (picks_of sets) p in
    let W : List ℕ → Type 0 = λ q. Pair (writes (read_script j sets) (picks_of sets) q) s.1 s.2 in
    let mine : Pair w c.first c.second = record {
      order = h.order;
      first = f.writes_it;
      last = g.writes_it;
      least = λ v less i.
          let k = writes_item j sets p v each i in
          let I : List ℕ → Type 0 = λ q. In (let x : Item = (q, v) in x) (items_from 0 sets) in
          h.least_tasks v less (subst I (sym f.key) k.item);
    } in
    let its : Pair w s.1 s.2 = subst W (sym same) (record {
      order = s.4.first;
      first = s.4.writes_first;
      last = s.4.writes_last;
      least =
          s.4.least_tasks;
    }) in
    let t : c.first ≡ s.1 = one_first w c.first c.second s.1 s.2 mine its in
    let u : c.second ≡ s.2 = one_last w c.first c.second s.1 s.2 mine its in
    ap (λ q. SamePath q c.first c.second) same ∙ ap (λ n. SamePath s.0 n c.second) t ∙ ap (SamePath s.0 s.1) u ∙ sym s.3

end_by : (j : Job) (sets : Sets) (best : Option Clash) (o : Option CommitEnd) → same_path (read_script j sets) (picks_of sets) ≡ o
    → AreRead j sets → length sets ≡ j.tasks → IsBest (items_from 0 sets) best → end_of j.dest best ≡ o
end_by j sets None None e each all b = refl
end_by j sets None (Some x) e each all b =
    let s = shared_found (read_script j sets) (picks_of sets) x e in
    absurd (b (below j.dest.key [] ++ s.0) s.1 s.2 s.4.first (writes_item j sets s.0 s.1 each s.4.writes_first).item
    (writes_item j sets s.0 s.2 each s.4.writes_last).item)
end_by j sets (Some c) None e each all b =
    let h : IsClash (items_from 0 sets) c.key c.first c.second = b in
    let f = item_writes j sets c.key c.first each h.first in
    let g = item_writes j sets c.key c.second each h.second in
    let l : c.second < j.tasks = (let l : c.second < length sets = g.within in omega arith) in
    absurd (shared_none (read_script j sets) (picks_of sets) e (relative_of j.dest c.key) c.first c.second h.order l f.writes_it
    g.writes_it)
end_by j sets (Some c) (Some x) e each all b = ap Some (clash_ends j sets c x each all b
    (shared_found (read_script j sets) (picks_of sets) x e))

pub same_path_is : (j : Job) (sets : Sets) (best : Option Clash) → AreRead j sets → length sets ≡ j.tasks → IsBest (items_from 0 sets) best
    → end_of j.dest best ≡ same_path (read_script j sets) (picks_of sets)
same_path_is j sets best each all b = end_by j sets best (same_path (read_script j sets) (picks_of sets)) refl each all b
