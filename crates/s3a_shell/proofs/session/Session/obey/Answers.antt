use Rattle.s3a_shell.proofs.Asking.{asked_by, stands_by}
use Rattle.s3a_shell.proofs.Few.{few_by}
use Rattle.s3a_shell.proofs.session.Session.obey.Goals as goal

pub returns-in-Ls-clause-asked : goal.returns-in-Ls-clause-asked
returns-in-Ls-clause-asked c = asked_by c.ls.result _ _ c.args.bytes.now c.args.self.now.store.scene _ _ c.in-Ls.is c.ls.ensures.asked

pub returns-in-Stat-clause-asked : goal.returns-in-Stat-clause-asked
returns-in-Stat-clause-asked c = asked_by c.stat.result _ _ c.args.bytes.now c.args.self.now.store.scene _ _ c.in-Stat.is
    c.stat.ensures.asked

pub returns-in-Cat-clause-asked : goal.returns-in-Cat-clause-asked
returns-in-Cat-clause-asked c = asked_by c.cat.result _ _ c.args.bytes.now c.args.self.now.store.scene _ _ c.in-Cat.is c.cat.ensures.asked

pub returns-in-Put-clause-asked : goal.returns-in-Put-clause-asked
returns-in-Put-clause-asked c = asked_by c.put.result _ _ c.args.bytes.now c.args.self.now.store.scene _ _ c.in-Put.is c.put.ensures.asked

pub returns-in-PutForce-clause-asked : goal.returns-in-PutForce-clause-asked
returns-in-PutForce-clause-asked c = asked_by c.put-in-PutForce.result _ _ c.args.bytes.now c.args.self.now.store.scene _ _
    c.in-PutForce.is c.put-in-PutForce.ensures.asked

pub returns-in-PutDrop-clause-asked : goal.returns-in-PutDrop-clause-asked
returns-in-PutDrop-clause-asked c = asked_by c.put-in-PutDrop.result _ _ c.args.bytes.now c.args.self.now.store.scene _ _ c.in-PutDrop.is
    c.put-in-PutDrop.ensures.asked

pub returns-in-Mkdir-clause-asked : goal.returns-in-Mkdir-clause-asked
returns-in-Mkdir-clause-asked c = asked_by c.mkdir.result _ _ c.args.bytes.now c.args.self.now.store.scene _ _ c.in-Mkdir.is
    c.mkdir.ensures.asked

pub returns-in-Mv-clause-asked : goal.returns-in-Mv-clause-asked
returns-in-Mv-clause-asked c = asked_by c.rename.result _ _ c.args.bytes.now c.args.self.now.store.scene _ _ c.in-Mv.is
    c.rename.ensures.asked

pub returns-in-Cp-clause-asked : goal.returns-in-Cp-clause-asked
returns-in-Cp-clause-asked c = asked_by c.copy.result _ _ c.args.bytes.now c.args.self.now.store.scene _ _ c.in-Cp.is c.copy.ensures.asked

pub returns-in-Rm-clause-asked : goal.returns-in-Rm-clause-asked
returns-in-Rm-clause-asked c = asked_by c.remove.result _ _ c.args.bytes.now c.args.self.now.store.scene _ _ c.in-Rm.is
    c.remove.ensures.asked

pub returns-in-Rmr-clause-asked : goal.returns-in-Rmr-clause-asked
returns-in-Rmr-clause-asked c = asked_by c.remove-in-Rmr.result _ _ c.args.bytes.now c.args.self.now.store.scene _ _ c.in-Rmr.is
    c.remove-in-Rmr.ensures.asked

pub returns-in-Uploads-clause-asked : goal.returns-in-Uploads-clause-asked
returns-in-Uploads-clause-asked c = asked_by c.uploads.result _ _ c.args.bytes.now c.args.self.now.store.scene _ _ c.in-Uploads.is
    c.uploads.ensures.asked

pub returns-in-AbortUploads-clause-asked : goal.returns-in-AbortUploads-clause-asked
returns-in-AbortUploads-clause-asked c = asked_by c.abort_uploads.result _ _ c.args.bytes.now c.args.self.now.store.scene _ _
    c.in-AbortUploads.is c.abort_uploads.ensures.asked

pub returns-in-Markers-clause-asked : goal.returns-in-Markers-clause-asked
returns-in-Markers-clause-asked c = asked_by c.markers.result _ _ c.args.bytes.now c.args.self.now.store.scene _ _ c.in-Markers.is
    c.markers.ensures.asked

pub returns-in-CleanMarkers-clause-asked : goal.returns-in-CleanMarkers-clause-asked
returns-in-CleanMarkers-clause-asked c = asked_by c.clean_markers.result _ _ c.args.bytes.now c.args.self.now.store.scene _ _
    c.in-CleanMarkers.is c.clean_markers.ensures.asked

pub returns-in-FillMarkers-clause-asked : goal.returns-in-FillMarkers-clause-asked
returns-in-FillMarkers-clause-asked c = asked_by c.fill_markers.result _ _ c.args.bytes.now c.args.self.now.store.scene _ _
    c.in-FillMarkers.is c.fill_markers.ensures.asked

pub returns-in-Ls-clause-few : goal.returns-in-Ls-clause-few
returns-in-Ls-clause-few c = few_by c.ls.result _ _ c.args.bytes.now c.args.self.now.store.scene _ _ c.in-Ls.is
    c.ls.ensures.few

pub returns-in-Stat-clause-few : goal.returns-in-Stat-clause-few
returns-in-Stat-clause-few c = few_by c.stat.result _ _ c.args.bytes.now c.args.self.now.store.scene _ _ c.in-Stat.is
    c.stat.ensures.few

pub returns-in-Cat-clause-few : goal.returns-in-Cat-clause-few
returns-in-Cat-clause-few c = few_by c.cat.result _ _ c.args.bytes.now c.args.self.now.store.scene _ _ c.in-Cat.is
    c.cat.ensures.few

pub returns-in-Put-clause-few : goal.returns-in-Put-clause-few
returns-in-Put-clause-few c = few_by c.put.result _ _ c.args.bytes.now c.args.self.now.store.scene _ _ c.in-Put.is
    c.put.ensures.few

pub returns-in-PutForce-clause-few : goal.returns-in-PutForce-clause-few
returns-in-PutForce-clause-few c = few_by c.put-in-PutForce.result _ _ c.args.bytes.now c.args.self.now.store.scene _ _ c.in-PutForce.is
    c.put-in-PutForce.ensures.few

pub returns-in-PutDrop-clause-few : goal.returns-in-PutDrop-clause-few
returns-in-PutDrop-clause-few c = few_by c.put-in-PutDrop.result _ _ c.args.bytes.now c.args.self.now.store.scene _ _ c.in-PutDrop.is
    c.put-in-PutDrop.ensures.few

pub returns-in-Mkdir-clause-few : goal.returns-in-Mkdir-clause-few
returns-in-Mkdir-clause-few c = few_by c.mkdir.result _ _ c.args.bytes.now c.args.self.now.store.scene _ _ c.in-Mkdir.is
    c.mkdir.ensures.few

pub returns-in-Mv-clause-few : goal.returns-in-Mv-clause-few
returns-in-Mv-clause-few c = few_by c.rename.result _ _ c.args.bytes.now c.args.self.now.store.scene _ _ c.in-Mv.is
    c.rename.ensures.few

pub returns-in-Cp-clause-few : goal.returns-in-Cp-clause-few
returns-in-Cp-clause-few c = few_by c.copy.result _ _ c.args.bytes.now c.args.self.now.store.scene _ _ c.in-Cp.is
    c.copy.ensures.few

pub returns-in-Rm-clause-few : goal.returns-in-Rm-clause-few
returns-in-Rm-clause-few c = few_by c.remove.result _ _ c.args.bytes.now c.args.self.now.store.scene _ _ c.in-Rm.is
    c.remove.ensures.few

pub returns-in-Rmr-clause-few : goal.returns-in-Rmr-clause-few
returns-in-Rmr-clause-few c = few_by c.remove-in-Rmr.result _ _ c.args.bytes.now c.args.self.now.store.scene _ _ c.in-Rmr.is
    c.remove-in-Rmr.ensures.few

pub returns-in-Uploads-clause-few : goal.returns-in-Uploads-clause-few
returns-in-Uploads-clause-few c = few_by c.uploads.result _ _ c.args.bytes.now c.args.self.now.store.scene _ _ c.in-Uploads.is
    c.uploads.ensures.few

pub returns-in-AbortUploads-clause-few : goal.returns-in-AbortUploads-clause-few
returns-in-AbortUploads-clause-few c = few_by c.abort_uploads.result _ _ c.args.bytes.now c.args.self.now.store.scene _ _
    c.in-AbortUploads.is
    c.abort_uploads.ensures.few

pub returns-in-Markers-clause-few : goal.returns-in-Markers-clause-few
returns-in-Markers-clause-few c = few_by c.markers.result _ _ c.args.bytes.now c.args.self.now.store.scene _ _ c.in-Markers.is
    c.markers.ensures.few

pub returns-in-CleanMarkers-clause-few : goal.returns-in-CleanMarkers-clause-few
returns-in-CleanMarkers-clause-few c = few_by c.clean_markers.result _ _ c.args.bytes.now c.args.self.now.store.scene _ _
    c.in-CleanMarkers.is
    c.clean_markers.ensures.few

pub returns-in-FillMarkers-clause-few : goal.returns-in-FillMarkers-clause-few
returns-in-FillMarkers-clause-few c = few_by c.fill_markers.result _ _ c.args.bytes.now c.args.self.now.store.scene _ _ c.in-FillMarkers.is
    c.fill_markers.ensures.few

pub returns-in-Mv-clause-sent : goal.returns-in-Mv-clause-sent
returns-in-Mv-clause-sent c = stands_by c.rename.result _ _ c.args.bytes.now c.args.self.now.store.scene _ _ c.in-Mv.is
    c.rename.ensures.sent
