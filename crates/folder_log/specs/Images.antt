-- The laws of a disk in memory.
use Rattle.folder_log.specs.Calls.{IsImage, IsTornBy, LeftSince, Recorded, after, after_all, at_rest, is_within, state_in, state_of, wrote}
use Rattle.folder_log.specs.Disk.{File, IsTorn, Torn, file_after, overwritten}
use Rattle.folder_log.specs.declared.state.DiskCall.{DiskCall}
use Rattle.folder_log.specs.declared.state.DiskCall.TheVariants.{Write}
use Rattle.folder_log.specs.declared.state.Span.{Span}
use Rattle.folder_log.specs.declared.state.State.{State}
use Rattle.std.proofs.Common.{ap, arith, length-append, length-drop, length-take, subst, sym, ◌∙◌}
use Rattle.std.proofs.lemmas.Bool.{leb-true}
use Rattle.std.proofs.lemmas.List.{drop_at, take_all, take_at}
use Rattle.std.specs.Prelude.{Bool, List, None, Option, Some, cond, drop, false, length, refl, take, true, ℕ, [], ◌++◌, ◌+◌, ◌∷◌, ◌≡◌, ◌≤◌}

pub torn_last : (rs : List Span) (r : Span) (a b c : File) → IsTornBy rs a b → IsTorn r.place r.length b c → IsTornBy (rs ++ r ∷ []) a c
torn_last [] r a b c h t = (c, subst (λ (f : File). IsTorn r.place r.length f c) h t, refl)
torn_last (x ∷ rs) r a b c h t = (h.0, h.1, torn_last rs r h.0 b c h.2 t)

-- The range of a write.
abbrev pub span : ℕ → List ℕ → Span
span place bytes = record { place = place; length = length bytes }

-- A torn write may leave everything that was written.
written_torn : (at : ℕ) (bytes old : List ℕ) → at ≤ length old → Torn at (length bytes) old (overwritten at bytes old)
written_torn at bytes old le =
    let first : length (take at old) ≡ at = omega (arith, length-take at old) in
    let both : length (take at old ++ bytes) ≡ at + length bytes = omega (arith, first, length-append (take at old) bytes) in
    let all : length (overwritten at bytes old) ≡ at + length bytes + length (drop (at + length bytes) old) = omega
    (arith, both, length-append (take at old ++ bytes) (drop (at + length bytes) old)) in
    record {
      before = ap (take at) (append_three (take at old) bytes (drop (at + length bytes) old)) ∙ take_at (take at old)
          (bytes ++ drop (at + length bytes) old) at first;
      after = drop_at (take at old ++ bytes) (drop (at + length bytes) old) (at + length bytes) both;
      no_shorter = omega (arith, all, length-drop (at + length bytes) old, le);
      no_longer = omega (arith, all, length-drop (at + length bytes) old, le);
    }
  where
    append_three : (a b c : List ℕ) → (a ++ b) ++ c ≡ a ++ (b ++ c)
    append_three [] b c = refl
    append_three (x ∷ a) b c = ap (λ (l : List ℕ). x ∷ l) (append_three a b c)

pub after_torn : (at : ℕ) (bytes : List ℕ) (file : File) → is_within at file ≡ true
    → IsTorn at (length bytes) file (file_after at bytes file)
after_torn at bytes None h = refl
after_torn at bytes (Some old) h = written_torn at bytes old (leb-true at (length old) h)

-- A crash may leave the file that a read gives.
image_after : (s : State) (c : DiskCall) → IsImage s s.now → IsImage (after s c) (after s c).now
image_after s (Write place bytes) h = by (is_within place s.now) refl
  where
    by : (b : Bool) → is_within place s.now ≡ b → IsImage (cond b (wrote s place bytes) s) (cond b (wrote s place bytes) s).now
    by true e = torn_last s.ranges (span place bytes) s.synced s.now (file_after place bytes s.now) h (after_torn place bytes s.now e)
    by false e = h
image_after s _ h = refl

pub image_now : (s : State) (cs : List DiskCall) → IsImage s s.now → IsImage (after_all s cs) (after_all s cs).now
image_now s [] h = h
image_now s (c ∷ cs) h = image_now (after s c) cs (image_after s c h)

pub shown : (d : Recorded) → IsImage (state_in d) (state_in d).now
shown d = image_now (at_rest d.first) d.calls refl

all_taken : (calls : List DiskCall) → take (length calls) calls ≡ calls
all_taken calls = take_all (length calls) calls (omega arith)

pub counted : (first : File) (calls : List DiskCall) (t : ℕ) (c : File) → t ≤ length calls → IsImage (state_of first calls) c
    → LeftSince first calls t c
counted first calls t c le image = (
  length calls,
  le,
  omega arith,
  subst (λ (l : List DiskCall). IsImage (state_of first l) c)
      (sym (all_taken calls)) image,
)

pub only_last : (first : File) (calls : List DiskCall) (c : File) → LeftSince first calls (length calls) c
    → IsImage (state_of first calls) c
only_last first calls c left =
    let same : left.0 ≡ length calls = omega (arith, left.1, left.2) in
    subst (λ (l : List DiskCall). IsImage (state_of first l) c) (ap (λ k. take k calls) same ∙ all_taken calls) left.3

some_is : (a b : File) → (let x : Option File = Some a in x ≡ Some b) → a ≡ b
some_is a b e = cc

pub shows_image : (d : Recorded) (c : File) → (let x : Option File = Some (state_in d).now in x ≡ Some c) → IsImage (state_in d) c
shows_image d c e = subst (IsImage (state_in d)) (some_is (state_in d).now c e) (shown d)
