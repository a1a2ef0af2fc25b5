use Rattle.job_gen.proofs.PartFiles.{files_on, paths_on}
use Rattle.job_gen.proofs.PartPaths.{path_free}
use Rattle.job_gen.specs.Made.{below, part_file, part_files}
use Rattle.job_model.specs.Files.{has_path}
use Rattle.job_spec.specs.Turns.{draw}
use Rattle.std.proofs.Common.{ap, arith, map, ◌*◌, ◌+◌, ◌∙◌, ◌≡◌}
use Rattle.job_gen.proofs.files.task_files.Goals as goal

pub add-requires : goal.add-requires
add-requires c =
    ap (has_path c.loop-file.made) c.in_ok-path.ensures
    ∙ path_free c.args.task c.loop-file.file 0 c.loop-file.file c.loop-file.made c.loop-file.invariant.paths (omega arith)
    (omega (arith, c.requires.files, c.loop-file-test.true))

pub loop-file-preserved : goal.loop-file-preserved
loop-file-preserved c =
    let t = c.args.task in
    let j = c.loop-file.file in
    record {
      paths = paths_on t j c.loop-file.made c.add.new.self c.in_ok-path.path c.in_ok-next_bytes.field-0 c.loop-file.invariant.paths
          c.in_ok-path.ensures c.in_ok-add.ensures.ok;
      drawn = λ seed i h.
          let two : i + 2 * j + 2 ≡ i + 2 * (j + 1) = omega arith in
          c.in_ok-next_bytes.ensures.goes_on seed (i + 2 * j) (c.loop-file.invariant.drawn seed i h) ∙ ap (draw seed) two;
      made = λ seed h.
          let here : 2 * (t * c.args.files) + 2 * j ≡ 2 * (t * c.args.files + j) = omega arith in
          let drawn = c.loop-file.invariant.drawn seed (2 * (t * c.args.files)) h ∙ ap (draw seed) here in
          files_on seed c.args.files t j c.loop-file.made c.add.new.self c.in_ok-path.path c.in_ok-next_bytes.field-0
          (c.loop-file.invariant.made seed h) c.in_ok-path.ensures (c.in_ok-next_bytes.ensures.bytes seed (2 * (t * c.args.files + j))
          drawn) c.in_ok-add.ensures.ok;
    }

pub returns-clause-made : goal.returns-clause-made
unfolding part_files
returns-clause-made c = λ seed h.
    let all : c.loop-file.file ≡ c.args.files = omega (arith, c.loop-file-test.false, c.loop-file.auto.file-end) in
    c.loop-file.invariant.made seed h ∙ ap (λ n. map (part_file seed c.args.files c.args.task) (below n)) all
