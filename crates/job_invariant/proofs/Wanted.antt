-- The files that the picks want, by task and attempt.
use Rattle.text_and_lists.proofs.Members.{false_true, in_append, in_back, in_front, none_or_some, none_some, same_or_not, some_is, text_is}
use Rattle.text_and_lists.proofs.Members.{true_or_false}
use Rattle.text_and_lists.specs.Members.{IsIn}
use Rattle.text_and_lists.specs.Order.{text_eq}
use Rattle.job_invariant.proofs.Held.{one_writer}
use Rattle.job_invariant.proofs.Legal.{has, same_file}
use Rattle.job_invariant.proofs.Whose.{attempt}
use Rattle.job_model.specs.Files.{File}
use Rattle.job_model.specs.JobScript.{Script}
use Rattle.job_model.specs.Legal.{IsLegal}
use Rattle.job_protocol.proofs.Shared.{shared_found, shared_none}
use Rattle.job_protocol.specs.Outputs.{Picks, files, files_picked, is_picked, paths_of, picked_below, same_path, wanted, wanted_at}
use Rattle.job_protocol.specs.Outputs.{wanted_below, writes}
use Rattle.job_protocol.specs.Records.{mark_text}
use Rattle.pending_json.specs.Trees.{success_tree}
use Rattle.serde_json.specs.Written.{compact_text}
use Rattle.std.proofs.Common.{Bool, List, None, Option, Some, ap, arith, cond, inl, inr, refl, subst, suc, sym, true, zero, ℕ, [], ◌&&◌}
use Rattle.std.proofs.Common.{◌++◌, ◌<◌, ◌∙◌, ◌∷◌, ◌≡◌}
use Rattle.std.specs.Map.{lookup}
use Rattle.std.specs.Option.{is_some}

-- ---- a path among files

pub record Found (fs : List File) (q b : List ℕ) : Type 0 where
  pub file : File
  pub mine : IsIn file fs
  pub path : q ≡ file.0
  pub bytes : file.1 ≡ b

pub in_lookup : (fs : List File) (q b : List ℕ) → lookup (text_eq q) fs ≡ Some b → Found fs q b
in_lookup [] q b h = absurd (none_some refl h)
in_lookup (f ∷ fs) q b h = elim (true_or_false (text_eq q f.0)) [
  | inl e ↦ record {
    file = f;
    mine = inl refl;
    path = text_is q f.0 e;
    bytes = some_is
        (ap (λ t. cond t (Some f.1) (lookup (text_eq q) fs)) (sym e) ∙ h);
  }
  | inr e ↦ let o = in_lookup fs q b (ap (λ t. cond t (Some f.1) (lookup (text_eq q) fs)) (sym e) ∙ h) in record
      { file = o.file; mine = inr o.mine; path = o.path; bytes = o.bytes }
]

some_found : (fs : List File) (g : File) → IsIn g fs → (b : List ℕ) × (lookup (text_eq g.0) fs ≡ Some b)
some_found fs g i = elim (none_or_some (lookup (text_eq g.0) fs)) [
  | inl none ↦ absurd (false_true (ap is_some none) (has fs g g.0 i refl))
  | inr x ↦ x
]

-- ---- the files of the picks

module _ (w : Script) (picks : Picks) where
  pub record IsPicked (n : ℕ) (g : File) : Type 0 where
    pub task : ℕ
    pub below : task < n
    pub number : ℕ
    pub picked : picks task ≡ Some number
    pub mine : IsIn g (files w (attempt task number))

  picked_in : (t : ℕ) (o : Option ℕ) (g : File) → IsIn g (files_picked w t o) → (a : ℕ) × (o ≡ Some a) × IsIn g (files w (attempt t a))
  picked_in t o g h = grind arith

  pub in_wanted : (n : ℕ) (g : File) → IsIn g (wanted_below w picks n) → IsPicked n g
  in_wanted zero g i = absurd i
  in_wanted (suc n) g i = elim (in_append g (wanted_below w picks n) (files_picked w n (picks n)) i) [
    | inl h ↦ let old = in_wanted n g h in let l : old.task < n = old.below in record
        { task = old.task; below = omega arith; number = old.number; picked = old.picked; mine = old.mine }
    | inr h ↦ let p = picked_in n (picks n) g h in record { task = n; below = omega arith; number = p.0; picked = p.1; mine = p.2 }
  ]

  pub wanted_in : (n t : ℕ) (g : File) → t < n → IsIn g (files_picked w t (picks t)) → IsIn g (wanted_below w picks n)
  wanted_in zero t g l i = absurd (omega arith)
  wanted_in (suc n) t g l i = elim (same_or_not t n) [
    | inl is ↦ in_back g (wanted_below w picks n) (files_picked w n (picks n)) (subst (λ v. IsIn g (files_picked w v (picks v))) is i)
    | inr ne ↦ in_front g (wanted_below w picks n) (files_picked w n (picks n)) (wanted_in n t g (omega arith) i)
  ]

  -- What is wanted at a path is the file of a pick.
  pub record IsWanted (q b : List ℕ) : Type 0 where
    pub file : File
    pub from : IsPicked w.tasks file
    pub path : q ≡ file.0
    pub bytes : file.1 ≡ b

  pub wanted_of : (q b : List ℕ) → wanted_at w picks q ≡ Some b → IsWanted q b
  wanted_of q b e = let o = in_lookup (wanted w picks) q b e in record {
    file = o.file;
    from = in_wanted w.tasks o.file o.mine;
    path =
        o.path;
    bytes = o.bytes;
  }

  picked_files : (t n : ℕ) (g : File) → picks t ≡ Some n → IsIn g (files w (attempt t n)) → IsIn g (files_picked w t (picks t))
  picked_files t n g e i = subst (λ o. IsIn g (files_picked w t o)) (sym e) i

  -- Such a file is wanted, if no two picks write one path.
  pub wanted_here : IsLegal w → same_path w picks ≡ None → (t n : ℕ) → t < w.tasks → picks t ≡ Some n → (g : File)
      → IsIn g (files w (attempt t n)) → wanted_at w picks g.0 ≡ Some g.1
  wanted_here j apart t n low e g i =
      let o = some_found (wanted w picks) g (wanted_in w.tasks t g low (picked_files t n g e i)) in
      let x = wanted_of g.0 o.0 o.1 in
      let h = x.from in
      let mine : writes w picks g.0 t ≡ true = has (files_picked w t (picks t)) g g.0 (picked_files t n g e i) refl in
      let other : writes w picks g.0 h.task ≡ true = ap (λ v. writes w picks v h.task) x.path ∙ has (files_picked w h.task (picks h.task))
      x.file x.file.0 (picked_files h.task h.number x.file h.picked h.mine) refl in
      let task : h.task ≡ t = one_writer w picks apart g.0 h.task t h.below low other mine in
      let number : h.number ≡ n = some_is (sym h.picked ∙ ap picks task ∙ e) in
      let who : attempt h.task h.number ≡ attempt t n = ap (λ v. attempt v h.number) task ∙ ap (λ v. attempt t v) number in
      let same : x.file ≡ g = same_file j (attempt t n) x.file g (subst (λ a. IsIn x.file (files w a)) who h.mine) i (sym x.path) in
      o.1 ∙ ap (λ v. Some v) (sym x.bytes ∙ ap (λ (v : File). v.1) same)

-- ---- picks that agree below the number of tasks

module _ (w : Script) (picks more : Picks) where
  same_below : (n : ℕ) → ((t : ℕ) → t < n → more t ≡ picks t) → wanted_below w more n ≡ wanted_below w picks n
  same_below zero h = refl
  same_below (suc n) h = ap (λ l. l ++ files_picked w n (more n)) (same_below n (λ t l. h t (omega arith))) ∙ ap
      (λ o. wanted_below w picks n ++ files_picked w n o) (h n (omega arith))

  picked_same : (n : ℕ) → ((t : ℕ) → t < n → more t ≡ picks t) → picked_below more n ≡ picked_below picks n
  picked_same zero h = refl
  picked_same (suc n) h = ap (λ b. b && is_some (more n)) (picked_same n (λ t l. h t (omega arith))) ∙ ap
      (λ o. picked_below picks n && is_some o) (h n (omega arith))

  module _ (agree : (t : ℕ) → t < w.tasks → more t ≡ picks t) where
    pub same_wanted : wanted w more ≡ wanted w picks
    same_wanted = same_below w.tasks agree

    pub same_picked : is_picked w more ≡ is_picked w picks
    same_picked = picked_same w.tasks agree

    pub same_mark : mark_text w more ≡ mark_text w picks
    same_mark = ap (λ l. compact_text (success_tree (record { job = w.job; committer = w.committer; files = paths_of l; stamp = w.stamp })))
        same_wanted

    -- If no two picks of the one write one path, no two of the other do.
    pub still_apart : same_path w picks ≡ None → same_path w more ≡ None
    still_apart e = elim (none_or_some (same_path w more)) [
      | inl none ↦ none
      | inr end ↦
          let x = shared_found w more end.0 end.1 in
          let s = x.4 in
          let last : x.2 < w.tasks = s.last in
          let first : x.1 < x.2 = s.first in
          let has : ℕ → Option ℕ → Bool = λ t o. writes w (λ v. o) x.0 t in
          let low : x.1 < w.tasks = omega arith in
          let a : writes w picks x.0 x.1 ≡ true = ap (has x.1) (sym (agree x.1 low)) ∙ s.writes_first in
          let b : writes w picks x.0 x.2 ≡ true = ap (has x.2) (sym (agree x.2 last)) ∙ s.writes_last in
          absurd (shared_none w picks e x.0 x.1 x.2 first last a b)
    ]
