use Rattle.job_invariant.proofs.SettingUp.{setup_goes, setup_alone, setup_beside, setup_done, empty_none, setup_no_file, strange_no_file}
use Rattle.job_invariant.proofs.setups.Goals as goal

pub returns : goal.returns
returns c = record {
  goes = record {
    begins = λ w s. tt;
    goes = λ w s retries t h r e o. setup_goes w s retries t.spare t.repeated t.operation h r e o;
    alone = setup_alone;
    beside = setup_beside;
    empty = empty_none;
    no_file = setup_no_file;
    no_file_beside = λ w drawn s there. strange_no_file w drawn s;
    done = setup_done;
  };
}
