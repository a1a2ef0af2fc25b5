use Rattle.job_invariant.proofs.Ended.{gone_stays}
use Rattle.job_invariant.proofs.EndedGone.{first_gone, commit_gone, others_gone}
use Rattle.job_invariant.proofs.FoundKeys.{clean_gone, found_goes, keys_stay}
use Rattle.job_invariant.proofs.Deciding.{d_start, decides_goes}
use Rattle.job_invariant.proofs.FilingLaws.{decides_beside, files_begin, files_go, attempt_same, stranger_same, left_before}
use Rattle.job_invariant.proofs.wanted_files.Goals as goal

pub returns : goal.returns
returns c = record {
  decides = record {
    begins = λ w minimum m. d_start w minimum m.publish_sent m.drawn;
    goes = λ g j s m c h o. decides_goes j h.hold c h.fits h.tabled h.decides o;
    beside = λ g m a op fits r e n o c h. decides_beside g m a op fits r e o c h;
  };
  gone = record {
    begins = first_gone;
    commit = λ g j s m c h r e n o. commit_gone j h.hold h.gone c h.fits h.tabled h.decides r e o;
    attempts = λ g s m a h x n r o. others_gone g.script s.scene h.there m.ended x r o;
    strangers = λ g s m h x n r o. others_gone g.script s.scene h.there m.ended x r o;
    clean = λ g s m h x c f r e n o. clean_gone g.script s.scene h.there h.ids.fresh m x c f r e o;
  };
  finds = record {
    begins = λ w c q i. absurd i;
    goes = λ g s m h retries t f r e o honest. found_goes g.script s.scene h.there h.ids.fresh retries t f r e o honest;
    beside = λ w s there t h r o. keys_stay w s there t r o h;
  };
  never_back = λ w s there id low r none. gone_stays w s there id low r none;
  files = record {
    begins = files_begin;
    goes = files_go;
    attempts = attempt_same;
    strangers = λ w minimum s m h r o k free. stranger_same w s.scene h.there r o k free;
    whole = λ w q b first now es m sets n h. h;
    reverted = λ w q b first now es m. left_before w q b first now es;
  };
}
