-- Each change keeps the conditions on the fields of a stream.
use Rattle.block_stream.proofs.Cuts.{asks_is, cut_rest, drop_is, first_is, first_part, next_is}
use Rattle.block_stream.proofs.FillingLaws.{AtStage, at_stage, due, room_after, room_begun, room_ended, settled_by}
use Rattle.block_stream.proofs.Grown.{room_shut, room_wrote}
use Rattle.block_stream.proofs.KeepingLaws.{unsettled}
use Rattle.block_stream.specs.Holds.{AreLong, HasRoom}
use Rattle.block_stream.specs.Kept.{seen}
use Rattle.block_stream.specs.inner.Kept.{AreCut, CutUp, IsCutUp, IsKept, first_of, front_of, is_whole, last_of, next_by}
use Rattle.block_stream.specs.Stream.{Stream, added, asks, asks_with, close, closed_by, complete_or_wait, ended, has_part, parted, settled}
use Rattle.block_stream.specs.Stream.{shut, stage, stage_of, wanted, wrote}
use Rattle.block_stream.specs.declared.mode.StreamEnd.{StreamEnd}
use Rattle.block_stream.specs.declared.mode.StreamEnd.TheVariants.{Done}
use Rattle.block_stream.specs.declared.mode.StreamMode.{StreamMode}
use Rattle.block_stream.specs.declared.stage.StreamStage.TheVariants.{Beginning, Sending}
use Rattle.s3_types.specs.Tags.{Spelled}
use Rattle.s3_types.specs.declared.request.Request.{Request}
use Rattle.std.proofs.Common.{ap, append_assoc, arith, length-append, refl, subst, sym, ◌∙◌}
use Rattle.std.proofs.lemmas.List.{append-nil}
use Rattle.std.proofs.lemmas.List.Folds.{concat-append}
use Rattle.std.proofs.lemmas.Option.{none-some}
use Rattle.std.specs.List.{concat}
use Rattle.std.specs.Prelude.{Bool, List, None, Option, Some, cond, drop, false, length, true, ℕ, [], ◌*◌, ◌++◌, ◌+◌, ◌-◌, ◌<◌, ◌∷◌, ◌≡◌}
use Rattle.std.specs.Prelude.{◌≤◌}

-- The fields of a stream that has not ended are cut into blocks.
pub cut_of : (e : Option StreamEnd) (n : ℕ) (closed : Bool) (q : List (List ℕ)) (r : List ℕ) → IsCutUp n closed q r → CutUp e n closed q r
cut_of e n closed q r h = grind arith

room_settled : (m : Stream) → HasRoom m → HasRoom (settled m)
room_settled m r = settled_by HasRoom m (room_ended m Done r) r

-- ---- blocks in front

front_next : (mode : StreamMode) (bucket key : List ℕ) (n : ℕ) (q l : List (List ℕ)) (closed : Bool) (tags : List Spelled) (u : Option ℕ)
    → next_by mode bucket key n (front_of q l) closed tags u ≡ next_by mode bucket key n (q ++ l) closed tags u
front_next mode bucket key n q l closed tags u = grind arith

long_both : (n : ℕ) (q l : List (List ℕ)) → AreLong n q → AreLong n l → AreLong n (q ++ l)
long_both n [] l h k = k
long_both n (b ∷ q) l h k = (h.0, long_both n q l h.1 k)

-- Whole blocks, with the rest as the last one.
long_cut : (n : ℕ) (q : List (List ℕ)) → 1 ≤ n → AreLong n q → AreCut n q
long_cut n [] l h = tt
long_cut n (b ∷ []) l h = let a : 0 < length b = omega (arith, h.0) in let c : length b ≤ n = omega (arith, h.0) in (a, c)
long_cut n (b ∷ c ∷ q) l h = (h.0, long_cut n (c ∷ q) l h.1)

cut_last : (n : ℕ) (q : List (List ℕ)) (b : List ℕ) → AreLong n q → 0 < length b → length b ≤ n → AreCut n (q ++ b ∷ [])
cut_last n [] b h p l = (p, l)
cut_last n (a ∷ []) b h p l = (h.0, (p, l))
cut_last n (a ∷ c ∷ q) b h p l = (h.0, cut_last n (c ∷ q) b h.1 p l)

cut_closed : (n : ℕ) (q : List (List ℕ)) (r : List ℕ) → 1 ≤ n → AreLong n q → length r < n → AreCut n (q ++ last_of r)
cut_closed n q [] l h k = subst (AreCut n) (sym (append-nil q)) (long_cut n q l h)
cut_closed n q (x ∷ r) l h k = let p : 0 < length (x ∷ r) = omega arith in let m : length (x ∷ r) ≤ n = omega arith in cut_last n q (x ∷ r)
    h p m

concat_last : (q : List (List ℕ)) (r : List ℕ) → concat (q ++ last_of r) ++ [] ≡ concat q ++ r
concat_last q [] = append-nil (concat (q ++ [])) ∙ concat-append q []
concat_last q (x ∷ r) = append-nil (concat (q ++ (x ∷ r) ∷ [])) ∙ concat-append q ((x ∷ r) ∷ []) ∙ ap (λ l. concat q ++ l)
    (append-nil (x ∷ r))

module _ (mode : StreamMode) (bucket key : List ℕ) (n : ℕ) (q : List (List ℕ)) (r : List ℕ) (u : Option ℕ) (tags : List Spelled) (count : ℕ)
  where
    -- the stream that these fields stand for
    abbrev at : Bool → Option StreamEnd → Stream
    at closed e = seen mode bucket key n q r u tags count closed e

    -- the fields of a stream that has not ended are cut into blocks
    cut_in : (closed : Bool) (e : Option StreamEnd) → e ≡ None → CutUp e n closed q r → IsCutUp n closed q r
    cut_in closed e p h = subst (λ v. CutUp v n closed q r) p h

    -- if a part is to be sent, it is the first block
    due_whole : (closed : Bool) (e : Option StreamEnd) → 1 ≤ n → IsCutUp n closed q r → has_part (at closed e) ≡ true → closed ≡ false
        → is_whole n q ≡ true
    due_whole closed e h g f p = grind arith

    pub begin_kept : (closed : Bool) (e : Option StreamEnd) (a b : Option Request) (id : ℕ) → IsKept (at closed e) q r a
        → stage (at closed e) ≡ Beginning
        → b ≡ asks_with Sending bucket key id tags (first_of q) → IsKept (seen mode bucket key n q r (Some id) tags count closed e) q r b
    begin_kept closed e a b id k s h =
        let x : AtStage Beginning (at closed e) = subst (λ g. AtStage g (at closed e)) s (at_stage (at closed e)) in
        let c = cut_in closed e x.0 k.cut in
        record {
          asks = h ∙ ap (λ z. asks_with Sending bucket key id tags z) (first_is n closed q r c (due_whole closed e k.room.some c x.2))
              ∙ sym (ap (λ v. asks (stage_of v (Some id) (seen mode bucket key n q r (Some id) tags count closed e))
              (seen mode bucket key n q r (Some id) tags count closed e)) x.0
              ∙ ap (λ v. asks (cond v Sending (complete_or_wait closed)) (seen mode bucket key n q r (Some id) tags count closed e)) x.2);
          room = room_begun (at closed e) id k.room;
          parts = λ z. absurd (none-some id (sym z));
          done = λ z w. absurd (none-some id (sym w));
          cut = k.cut;
        }

    -- the fields after a part was answered
    pub part_kept : (closed : Bool) (e : Option StreamEnd) (a : Option Request) (t : Spelled) (x : Option Request × Option StreamEnd)
        → IsKept (at closed e) q r a → stage (at closed e) ≡ Sending
        → x ≡ next_by mode bucket key n (drop 1 q) closed (tags ++ t ∷ []) u
        → (seen mode bucket key n (drop 1 q) r u (tags ++ t ∷ []) count closed x.1 ≡ settled (parted (at closed e) t))
        × IsKept (seen mode bucket key n (drop 1 q) r u (tags ++ t ∷ []) count closed x.1) (drop 1 q) r x.0
    part_kept closed e a t x k s h =
        let y : AtStage Sending (at closed e) = subst (λ g. AtStage g (at closed e)) s (at_stage (at closed e)) in
        let c = cut_in closed e y.0 k.cut in
        let d = due_whole closed e k.room.some c y.2 in
        let new : Stream = seen mode bucket key n (drop 1 q) r u (tags ++ t ∷ []) count closed None in
        let is : parted (at closed e) t ≡ new =
        ap (λ p. record {
          mode = mode;
          bucket = bucket;
          key = key;
          block = n;
          pending = p;
          upload = u;
          tags = tags ++ t ∷ [];
          count = count;
          closed = closed;
          end = e;
        }) (drop_is n closed q r c d)
        ∙ ap (λ v. seen mode bucket key n (drop 1 q) r u (tags ++ t ∷ []) count closed v) y.0 in
        let no : u ≡ None → tags ++ t ∷ [] ≡ [] = λ z. absurd (none-some _ (sym z ∙ y.1)) in
        let w = next_is mode bucket key n (drop 1 q) r u (tags ++ t ∷ []) count closed k.room.some (cut_rest n closed q r c) no in
        let seen_is : seen mode bucket key n (drop 1 q) r u (tags ++ t ∷ []) count closed x.1 ≡ settled new = ap
        (λ (v : Option Request × Option StreamEnd). seen mode bucket key n (drop 1 q) r u (tags ++ t ∷ []) count closed v.1) h ∙ w.0 in
        let all = seen_is ∙ ap settled (sym is) in (
          all,
          record {
            asks = ap (λ (v : Option Request × Option StreamEnd). v.0) h ∙ w.1 ∙ ap wanted (sym seen_is);
            room = subst HasRoom (sym all) (room_settled (parted (at closed e) t)
                (room_after (at closed e) t k.room (due (at closed e) y.2)));
            parts = λ z. absurd (none-some _ (sym z ∙ y.1));
            done = λ z w. absurd (none-some _ (sym w ∙ y.1));
            cut = cut_of x.1 n closed (drop 1 q) r (cut_rest n closed q r c);
          },
        )

    abbrev pub IsWroteAs : Bool → Option StreamEnd → List ℕ → List (List ℕ) → List ℕ → ℕ → Option Request → Type 0
    IsWroteAs closed e piece q' r' count' b =
        (seen mode bucket key n q' r' u tags count' closed e ≡ wrote (at closed e) piece)
        × IsKept (seen mode bucket key n q' r' u tags count' closed e) q' r' b

    -- the fields after a piece, with these blocks and this rest
    wrote_kept : (e : Option StreamEnd) (a b : Option Request) (piece : List ℕ) (closed : Bool) (q' : List (List ℕ)) (r' : List ℕ)
        → closed ≡ false → e ≡ None
        → count + length piece ≤ n * 10000 → IsKept (at closed e) q r a
        → concat q' ++ r' ≡ (concat q ++ r) ++ piece → IsCutUp n false q' r'
        → b ≡ wanted (seen mode bucket key n q' r' u tags (count + length piece) false None)
        → IsWroteAs closed e piece q' r' (count + length piece) b
    wrote_kept e a b piece closed q' r' o p few k bytes c asked =
        let is : seen mode bucket key n q' r' u tags (count + length piece) closed e ≡ wrote (at closed e) piece =
        ap (λ z. record {
          mode = mode;
          bucket = bucket;
          key = key;
          block = n;
          pending = z;
          upload = u;
          tags = tags;
          count = count + length
              piece;
          closed = closed;
          end = e;
        })
        (bytes ∙ sym (ap (λ v. added v (concat q ++ r) piece) p)) in (
          is,
          record {
            asks = asked
                ∙ sym (ap (λ v. wanted (seen mode bucket key n q' r' u tags (count + length piece) v e)) o ∙ ap
                (λ v. wanted (seen mode bucket key n q' r' u tags (count + length piece) false v)) p);
            room = subst HasRoom (sym is) (room_wrote (at closed e) piece o few k.room);
            parts = k.parts;
            done = λ z w. absurd (none-some Done (sym p ∙ z));
            cut = cut_of e n closed q' r' (subst (λ v. IsCutUp n v q' r') (sym o) c);
          },
        )

    -- the fields after a short piece
    pub short_in : (closed : Bool) (e : Option StreamEnd) (a : Option Request) (piece r' : List ℕ) (count' : ℕ) → closed ≡ false → e ≡ None
        → count + length piece ≤ n * 10000
        → IsKept (at closed e) q r a
        → length piece < n - length r → r' ≡ r ++ piece → count' ≡ count + length piece → IsWroteAs closed e piece q r' count' a
    short_in closed e a piece r' count' o p few k short hr hc =
        let c : IsCutUp n false q r = subst (λ v. IsCutUp n v q r) o (cut_in closed e p k.cut) in
        let sum : length (r ++ piece) ≡ length r + length piece = length-append r piece in
        let l : length (r ++ piece) < n = omega (arith, sum, c.1) in
        let c' : IsCutUp n false q (r ++ piece) = (c.0, l) in
        rw (hr, hc)
        (wrote_kept e a a piece closed q (r ++ piece) o p few k (sym (append_assoc (concat q) r piece)) c'
        (k.asks ∙ ap (λ v. wanted (at v e)) o ∙ ap (λ v. wanted (at false v)) p ∙ sym
        (asks_is mode bucket key n q r u tags count false k.room.some c)
        ∙ asks_is mode bucket key n q (r ++ piece) u tags (count + length piece) false k.room.some c'))

    -- the fields after a piece that fills blocks
    pub long_in : (closed : Bool) (e : Option StreamEnd) (a b : Option Request) (piece rest : List ℕ) (bs q' f : List (List ℕ)) (count' : ℕ)
        (x : Option Request × Option StreamEnd) → closed ≡ false → e ≡ None → count + length piece ≤ n * 10000 → IsKept (at closed e) q r a
        → concat bs ++ rest ≡ r ++ piece → AreLong n bs → length rest < n → count' ≡ count + length piece
        → f ≡ front_of q bs → b ≡ x.0 → x ≡ next_by mode bucket key n f false tags u → q' ≡ q ++ bs
        → IsWroteAs closed e piece q' rest count' b
    long_in closed e a b piece rest bs q' f count' x o p few k joined long short hc hf hb hx hq =
        let c : IsCutUp n false q r = subst (λ v. IsCutUp n v q r) o (cut_in closed e p k.cut) in
        let c' : IsCutUp n false (q ++ bs) rest = (long_both n q bs c.0 long, short) in
        rw (hq, hc, hb)
        (wrote_kept e a x.0 piece closed (q ++ bs) rest o p few k
        (ap (λ z. z ++ rest) (concat-append q bs) ∙ append_assoc (concat q) (concat bs) rest ∙ ap (λ z. concat q ++ z) joined ∙ sym
        (append_assoc (concat q) r piece)) c'
        (ap (λ (v : Option Request × Option StreamEnd). v.0) (hx ∙ ap (λ z. next_by mode bucket key n z false tags u) hf ∙ front_next mode
        bucket key n q bs false tags u)
        ∙ (next_is mode bucket key n (q ++ bs) rest u tags (count + length piece) false k.room.some c' k.parts).1))

    -- the fields after the close
    pub close_kept : (e : Option StreamEnd) (a : Option Request) (closed : Bool) (x : Option Request × Option StreamEnd) → closed ≡ false
        → e ≡ None → IsKept (at closed e) q r a
        → x ≡ next_by mode bucket key n (front_of q (last_of r)) true tags u
        → (seen mode bucket key n (q ++ last_of r) [] u tags count true x.1 ≡ close (at closed e))
        × IsKept (seen mode bucket key n (q ++ last_of r) [] u tags count true x.1) (q ++ last_of r) [] x.0
    close_kept e a closed x o p k h =
        let c : IsCutUp n false q r = subst (λ v. IsCutUp n v q r) o (cut_in closed e p k.cut) in
        let c' : IsCutUp n true (q ++ last_of r) [] = (cut_closed n q r k.room.some c.0 c.1, refl) in
        let new : Stream = seen mode bucket key n (q ++ last_of r) [] u tags count true None in
        let is : new ≡ shut (at closed e) =
        ap (λ z. record {
          mode = mode;
          bucket = bucket;
          key = key;
          block = n;
          pending = z;
          upload = u;
          tags = tags;
          count = count;
          closed =
              true;
          end = None;
        }) (concat_last q r)
        ∙ ap (λ v. record {
          mode = mode;
          bucket = bucket;
          key = key;
          block = n;
          pending = concat q ++ r;
          upload = u;
          tags = tags;
          count =
              count;
          closed = true;
          end = v;
        }) (sym p) in
        let w = next_is mode bucket key n (q ++ last_of r) [] u tags count true k.room.some c' k.parts in
        let seen_is : seen mode bucket key n (q ++ last_of r) [] u tags count true x.1 ≡ settled new =
        ap (λ (v : Option Request × Option StreamEnd). seen mode bucket key n (q ++ last_of r) [] u tags count true v.1)
        (h ∙ front_next mode bucket key n q (last_of r) true tags u) ∙ w.0 in
        let all : seen mode bucket key n (q ++ last_of r) [] u tags count true x.1 ≡ close (at closed e) =
        seen_is ∙ ap settled is ∙ sym (ap (λ v. closed_by v (at closed e)) p) in (
          all,
          record {
            asks = ap (λ (v : Option Request × Option StreamEnd). v.0) (h ∙ front_next mode bucket key n q (last_of r) true tags u) ∙ w.1 ∙
                ap
                wanted (sym seen_is);
            room = subst HasRoom (sym (seen_is ∙ ap settled is)) (room_settled (shut (at closed e)) (room_shut (at closed e) k.room));
            parts = k.parts;
            done = λ z w. absurd (none-some Done (sym (sym z ∙ ap (λ (m : Stream). m.end)
                (seen_is ∙ ap (λ b. cond b (ended new Done) new) (unsettled new (first_part new refl (k.parts w)))))));
            cut = cut_of x.1 n true (q ++ last_of r) [] c';
          },
        )

    -- the same for fields that are given by equations
    abbrev IsParted : Bool → Option StreamEnd → Spelled → List (List ℕ) → List Spelled → Option Request → Option StreamEnd → Type 0
    IsParted closed e t q' tags' b e' = (seen mode bucket key n q' r u tags' count closed e' ≡ settled (parted (at closed e) t))
        × IsKept (seen mode bucket key n q' r u tags' count closed e') q' r b

    pub part_in : (closed : Bool) (e : Option StreamEnd) (a b : Option Request) (t : Spelled) (x : Option Request × Option StreamEnd)
        (q' : List (List ℕ)) (tags' : List Spelled) → IsKept (at closed e) q r a → stage (at closed e) ≡ Sending
        → q' ≡ drop 1 q → tags' ≡ tags ++ t ∷ [] → b ≡ x.0 → x ≡ next_by mode bucket key n q' closed (tags ++ t ∷ []) u
        → IsParted closed e t q' tags' b x.1
    part_in closed e a b t x q' tags' k s hq ht hb hx =
        rw (hq, ht, hb) (part_kept closed e a t x k s (hx ∙ ap (λ z. next_by mode bucket key n z closed (tags ++ t ∷ []) u) hq))

    abbrev pub IsClosedAs : Bool → Option StreamEnd → List (List ℕ) → List ℕ → Option Request → Option StreamEnd → Type 0
    IsClosedAs closed e q' r' b e' = (seen mode bucket key n q' r' u tags count true e' ≡ close (at closed e))
        × IsKept (seen mode bucket key n q' r' u tags count true e') q' r' b

    pub close_in : (closed : Bool) (e : Option StreamEnd) (a b : Option Request) (r' : List ℕ) (l q' f : List (List ℕ))
        (x : Option Request × Option StreamEnd) → closed ≡ false → e ≡ None → IsKept (at closed e) q r a
        → l ≡ last_of r → f ≡ front_of q l → b ≡ x.0 → x ≡ next_by mode bucket key n f true tags u → q' ≡ q ++ l → r' ≡ []
        → IsClosedAs closed e q' r' b x.1
    close_in closed e a b r' l q' f x o p k hl hf hb hx hq hr =
        rw (hq, hl, hr, hb) (close_kept e a closed x o p k (hx ∙ ap (λ z. next_by mode bucket key n z true tags u)
        (hf ∙ ap (front_of q) hl)))
