-- What the joint journal says of each side by events, and so what readers see at each moment.
use Rattle.job_invariant.specs.Told.{nothing_told, tell_all}
use Rattle.job_protocol.specs.Operations.{Setting}
use Rattle.job_protocol.specs.Seen.{Seen, Times}
use Rattle.protocol_runs.proofs.Entries.{sees, tells_so}
use Rattle.protocol_runs.proofs.EveryRun.{cleans_is}
use Rattle.protocol_runs.specs.Runs.{Stand}
use Rattle.s3_types.specs.Store.{Content}
use Rattle.std.proofs.Common.{List, ap, length, subst, take, ℕ, ◌∙◌, ◌≤◌}
use Rattle.twin_facts.proofs.TwinRuns.{all_so, moments, opens_first, opens_second, twins_keep}
use Rattle.twin_facts.specs.Events.{AtMoment, IsSaid, seen_twin}
use Rattle.twin_facts.specs.Sides.{First, IsTwinOpening, Second, TwinEntry, TwinRun, eyes}
use Rattle.twin_facts.specs.TwinLaws.{Marked, MayBeTwins, Shows}

module _ (g h : Setting) (m : MayBeTwins g.script h.script) (k l : Times) (opening : Content) (is : IsTwinOpening g h opening) where
  pub said : (es : List TwinEntry) (x y : Stand) → TwinRun g h k l opening es x y → IsSaid g.script k First opening es x
      × IsSaid h.script l Second opening es y
  said es x y run =
      let p = (all_so g h m k l opening is es x y run).pair in
      let a = opens_first g h m k l opening is in
      let b = opens_second g h m k l opening is in (
        record {
          seen = sees g k opening m.first a (eyes First es) x p.first;
          told = tells_so g k opening m.first a (eyes First es) x
              p.first ∙ ap (λ c. tell_all g.script (nothing_told c) (eyes First es))
              (cleans_is g k opening m.first a (eyes First es) x p.first);
        },
        record {
          seen = sees h l opening m.second b (eyes Second es) y p.second;
          told = tells_so h l opening m.second b (eyes Second es) y
              p.second ∙ ap (λ c. tell_all h.script (nothing_told c) (eyes Second es))
              (cleans_is h l opening m.second b (eyes Second es) y p.second);
        },
      )

  -- The same at each moment.
  pub always : (es : List TwinEntry) (x y : Stand) → TwinRun g h k l opening es x y
      → (n : ℕ) → n ≤ length es → AtMoment g.script h.script k l opening es n
  always es x y run n few =
      let r = moments g h k l opening es x y run n few in
      let keep = (twins_keep g h m k l opening is (take n es) r.0 r.1 r.2).shown in
      let both = said (take n es) r.0 r.1 r.2 in
      let a = (both.0).seen in
      let b = (both.1).seen in
      let others : Seen = seen_twin h.script l Second opening es n in
      record {
        shows = subst (λ s. Shows g.script h.script opening s.scene.content s others) a
            (subst (λ q. Shows g.script h.script opening (r.0).seen.scene.content (r.0).seen q) b keep.shows);
        first = λ z. subst (λ s. Marked g.script h.script s.scene.content s.picks others.picks) a
            (subst (λ q. Marked g.script h.script (r.0).seen.scene.content (r.0).seen.picks q.picks) b (keep.first z));
        second = λ z. subst (λ s. Marked h.script g.script others.scene.content others.picks s.picks) a
            (subst (λ q. Marked h.script g.script q.scene.content q.picks (r.0).seen.picks) b (keep.second z));
      }
