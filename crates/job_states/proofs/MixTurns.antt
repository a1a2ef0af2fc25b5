-- Turns of actors that are mixed.
use Rattle.text_and_lists.proofs.Members.{none_some, same_or_not}
use Rattle.job_model.specs.declared.ends.ActorEnd.{ActorEnd}
use Rattle.job_model.specs.declared.ends.OpEnd.{OpEnd}
use Rattle.job_spec.specs.Turns.{Mixing, draw, mix_begins, mix_dies, mix_ends, mix_sends, place}
use Rattle.job_states.proofs.Choices.{next_drawn, place_is}
use Rattle.job_states.proofs.MixPlaces.{get_map, get_remove, remove_apart, remove_get, remove_map}
use Rattle.job_states.specs.Mixes.{AreApart, AreGoing, Mixed}
use Rattle.job_states.specs.inner.Mixes.{Mixes}
use Rattle.job_states.specs.Turning.{Beside, Ending, Table, Turned}
use Rattle.job_states.specs.declared.actors.Turn.TheVariants.{Died, Ended, GoesOn}
use Rattle.s3_types.specs.declared.journal.Entry.{Entry}
use Rattle.s3_types.specs.declared.request.Actor.{Actor}
use Rattle.std.proofs.Common.{List, Some, ap, append-nil, append_assoc, arith, inl, inr, length, length-append, map, refl, slice_get, subst}
use Rattle.std.proofs.Common.{sym, true≢false, ℕ, [], ◌%◌, ◌*◌, ◌++◌, ◌+◌, ◌/◌, ◌<◌, ◌^◌, ◌∙◌, ◌∷◌, ◌≡◌, ◌≤◌}
use Rattle.std.proofs.lemmas.List.{length-map, nil_from_length}
use Rattle.std.proofs.lemmas.List.Edits.{length-remove}
use Rattle.std.proofs.lemmas.Option.{slice_get_within}
use Rattle.std.specs.List.{remove}

pub mixes_begin : (seed : ℕ) (places : List ℕ) (drawn : ℕ) (s : Table) → AreApart places → AreGoing s places → length places ≤ s.room
    → drawn ≡ seed % 2 ^ 31 → drawn < 2 ^ 31 → Mixes seed places places drawn s s
mixes_begin seed places drawn s apart going room is small = record {
  part = [];
  ends = [];
  appended = sym (append-nil s.entries);
  told = sym (append-nil s.ended);
  mixing = mix_begins;
  drawn = is;
  small = small;
  apart = apart;
  going = going;
  room = room;
  over = λ i q e. inr (i, e);
  others = λ q ne. refl;
  among = λ j q e. (j, e);
  actors = λ q. refl;
}

module _ {seed : ℕ} {places busy : List ℕ} {drawn : ℕ} {s t : Table} (u : Table) (m : Mixes seed places busy drawn s t) (a p : ℕ)
    (at : slice_get busy p ≡ Some a) where
  -- The place of the chosen actor.
  chosen : (n next : ℕ) → next ≡ (1103515245 * drawn + 12345) % 2147483648 → p ≡ next / 65536 % n → n ≡ length busy
      → p ≡ place seed (length m.part + 1) (length (map s.actor busy))
  chosen n next next_is p_is n_is =
      p_is ∙ ap (λ v. next / 65536 % v) (n_is ∙ sym (length-map busy s.actor)) ∙ ap (λ v. v / 65536 % length (map s.actor busy)) next_is ∙
      place_is seed (length m.part) drawn (length (map s.actor busy)) m.drawn

  stands : (x : Actor) → x ≡ t.actor a → slice_get (map s.actor busy) p ≡ Some x
  stands x is = get_map s.actor busy p a at ∙ ap (λ v. Some v) (sym (is ∙ m.actors a))

  longer : (e : Entry) → length m.part + 1 ≡ length (m.part ++ e ∷ [])
  longer e = sym (length-append m.part (e ∷ []))

  pub mixes_on : (n next : ℕ) → next ≡ (1103515245 * drawn + 12345) % 2147483648 → next < 2 ^ 31 → p ≡ next / 65536 % n → n ≡ length busy
      → Turned a t u GoesOn → Mixes seed places busy next s u
  mixes_on n next next_is small p_is n_is turn =
      let e = turn.1.entry in
      let room = m.room in
      let after = turn.4 in
      let where_is = chosen n next next_is p_is n_is in
      record {
        part = m.part ++ e ∷ [];
        ends = m.ends;
        appended = turn.1.appended ∙ ap (λ es. es ++ e ∷ []) m.appended ∙ append_assoc s.entries m.part (e ∷ []);
        told = turn.3 ∙ m.told;
        mixing = mix_sends m.part m.ends (map s.actor busy) e m.mixing (ap (slice_get (map s.actor busy)) (sym where_is) ∙ stands e.actor
            turn.1.by);
        drawn = next_is ∙ next_drawn seed (length m.part) drawn m.drawn ∙ ap (draw seed) (longer e);
        small = small;
        apart = m.apart;
        going = λ i q g. elim (same_or_not q a) [
          | inl is ↦ ap u.goes_on is ∙ turn.2
          | inr ne ↦ turn.0.others q ne ∙ m.going i q g
        ];
        room = omega (arith, room, after);
        over = λ i q g. elim (m.over i q g) [
          | inl h ↦ inl (turn.0.others q (λ is. absurd (true≢false (sym (m.going p a at) ∙ ap t.goes_on (sym is) ∙ h))) ∙ h)
          | inr y ↦ inr y
        ];
        others = λ q ne. turn.0.others q (λ is. let i = m.among p a at in ne i.0 (i.1 ∙ ap (λ v. Some v) (sym is))) ∙ m.others q ne;
        among = m.among;
        actors = λ q. turn.0.actors q ∙ m.actors q;
      }

  -- The mix without the actor at a place.
  mixes_less : (rest : List ℕ) (next : ℕ) → rest ≡ remove busy p → Beside a t u → Ending a t u → (part : List Entry) (end : OpEnd)
      → u.entries ≡ s.entries ++ part → next ≡ draw seed (length part) → next < 2 ^ 31
      → Mixing seed (map s.actor places) part (m.ends ++ record { actor = t.actor a; end = end } ∷ []) (remove (map s.actor busy) p)
      → u.ended ≡ t.ended ++ record { actor = t.actor a; end = end } ∷ [] → Mixes seed places rest next s u
  mixes_less rest next is b ending part end appended drawn small mixing told =
      let x : ActorEnd = record { actor = t.actor a; end = end } in
      let shorter : length (remove busy p) + 1 ≡ length busy = length-remove busy p (slice_get_within busy p a at) in
      let before = m.room in
      let same : length rest ≡ length (remove busy p) = ap length is in
      let room = ending.room in
      let left : (i q : ℕ) → slice_get rest i ≡ Some q → (j : ℕ) × (slice_get busy j ≡ Some q)
      × (q ≡ a → ⊥) = λ i q g. remove_get busy p a m.apart at i q (ap (λ v. slice_get v i) (sym is) ∙ g) in
      record {
        part = part;
        ends = m.ends ++ x ∷ [];
        appended = appended;
        told = told ∙ ap (λ xs. xs ++ x ∷ []) m.told ∙ append_assoc s.ended m.ends (x ∷ []);
        mixing = subst (Mixing seed (map s.actor places) part (m.ends ++ x ∷ [])) (sym (ap (map s.actor) is ∙ remove_map s.actor busy p))
            mixing;
        drawn = drawn;
        small = small;
        apart = subst AreApart (sym is) (remove_apart busy p m.apart);
        going = λ i q g. let r = left i q g in b.others q r.2 ∙ m.going r.0 q r.1;
        room = omega (arith, shorter, before, same, room);
        over = λ i q g. elim (same_or_not q a) [
          | inl at_a ↦ inl (ap u.goes_on at_a ∙ ending.idle)
          | inr ne ↦ elim (m.over i q g) [
            | inl h ↦ inl (b.others q ne ∙ h)
            | inr y ↦ let r = get_remove busy p a at y.0 q y.1 ne in inr (r.0, ap (λ v. slice_get v r.0) is ∙ r.1)
          ]
        ];
        others = λ q ne. b.others q (λ at_a. let i = m.among p a at in ne i.0 (i.1 ∙ ap (λ v. Some v) (sym at_a))) ∙ m.others q ne;
        among = λ j q g. let r = left j q g in m.among r.0 q r.1;
        actors = λ q. b.actors q ∙ m.actors q;
      }

  pub mixes_end : (n next : ℕ) (rest : List ℕ) → rest ≡ remove busy p → next ≡ (1103515245 * drawn + 12345) % 2147483648 → next < 2 ^ 31
      → p ≡ next / 65536 % n → n ≡ length busy → Turned a t u Ended → Mixes seed places rest next s u
  mixes_end n next rest is next_is small p_is n_is turn =
      let e = turn.1.entry in
      let end = turn.2.end in
      let where_is = chosen n next next_is p_is n_is in
      let P : ℕ → Actor → Type 0 = λ v x. Mixing seed (map s.actor places) (m.part ++ e ∷ [])
      (m.ends ++ record { actor = x; end = end } ∷ []) (remove (map s.actor busy) v) in
      mixes_less rest next is turn.0 turn.2 (m.part ++ e ∷ []) end (turn.1.appended ∙ ap (λ es. es ++ e ∷ []) m.appended ∙ append_assoc
      s.entries m.part (e ∷ []))
      (next_is ∙ next_drawn seed (length m.part) drawn m.drawn ∙ ap (draw seed) (longer e)) small
      (subst (P p) turn.1.by (subst (λ v. P v e.actor) (sym where_is) (mix_ends m.part m.ends (map s.actor busy) e end m.mixing
      (ap (slice_get (map s.actor busy)) (sym where_is) ∙ stands e.actor turn.1.by))))
      turn.2.told

  pub mixes_die : (rest : List ℕ) → rest ≡ remove busy p → Turned a t u Died → Mixes seed places rest drawn s u
  mixes_die rest is turn =
      let y = turn.2.0 in
      mixes_less rest drawn is turn.0 y m.part y.end (turn.1 ∙ m.appended) m.drawn m.small
      (mix_dies m.part m.ends (map s.actor busy) p (t.actor a) y.end m.mixing (stands (t.actor a) refl) turn.2.1) y.told

pub mixes_over : {seed : ℕ} {places busy : List ℕ} {drawn : ℕ} {s t : Table} → Mixes seed places busy drawn s t → length busy ≡ 0
    → Mixed seed places s t
mixes_over {seed = seed} {places = places} {busy = busy} {s = s} {t = t} m none =
    let empty = nil_from_length busy none in
    let P : List ℕ → Type 0 = λ v. Mixing seed (map s.actor places) m.part m.ends (map s.actor v) in
    record {
      part = m.part;
      ends = m.ends;
      appended = m.appended;
      told = m.told;
      mixing = subst P empty m.mixing;
      over = λ i q e. elim (m.over i q e) [
        | inl h ↦ h
        | inr y ↦ absurd (none_some (ap (λ v. slice_get v y.0) empty) y.1)
      ];
      others = m.others;
      actors = m.actors;
    }
