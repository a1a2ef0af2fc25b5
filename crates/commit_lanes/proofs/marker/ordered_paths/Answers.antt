use Rattle.std.proofs.Common.{◌≡◌, ◌+◌, ◌-◌, ◌≤◌, length, arith}
use Rattle.commit_lanes.proofs.ReadFiles.{paths_begin, path_within, paths_more}
use Rattle.commit_lanes.proofs.marker.ordered_paths.Goals as goal

pub loop-n-init : goal.loop-n-init
loop-n-init c = (
  omega arith,
  paths_begin c.args.dest.now c.args.sets.now c.args.places.now c.new-paths.result.keys c.requires.places
      c.new-paths.ensures.empty,
)

pub upload-requires-clause-within : goal.upload-requires-clause-within
upload-requires-clause-within c =
    let most : c.loop-n.n ≤ length c.args.places.now = c.loop-n.invariant.0 in
    path_within c.args.sets.now c.args.places.now (c.loop-n.n - 1) c.requires.places (omega arith)

pub loop-n-preserved : goal.loop-n-preserved
loop-n-preserved c =
    let most : c.loop-n.n ≤ length c.args.places.now = c.loop-n.invariant.0 in
    let next : c.loop-n.n ≡ c.loop-n.n - 1 + 1 = omega arith in (
      omega arith,
      paths_more c.args.dest.now c.args.sets.now (c.loop-n.n - 1) c.loop-n.n c.loop-n.paths.keys c.insert.new.self.keys c.in_ok-path.path
          c.destination.result.now c.upload.result.now
          (path_within c.args.sets.now c.args.places.now (c.loop-n.n - 1) c.requires.places (omega arith)) next c.loop-n.invariant.1
          c.in_ok-insert.ensures.keys c.in_ok-path.ensures c.destination.ensures c.upload.ensures,
    )
