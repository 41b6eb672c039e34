use denote.Param.{param}
use denote.Param.Send.{IsSend, given_send, param_send}
use Rattle.dmr_trunk.proofs.row.fn.serve_beside.scope.Goals as goal

pub serve_in-requires-send-P : goal.serve_in-requires-send-P
serve_in-requires-send-P g c κs within = let sends : IsSend (param 0 g.row.P) = search in param_send _ _ (given_send 0 _ g.row.P sends)

pub serve_in-requires-send-G : goal.serve_in-requires-send-G
serve_in-requires-send-G g c κs within = let sends : IsSend (param 1 g.row.G) = search in param_send _ _ (given_send 1 _ g.row.G sends)

pub serve_in-requires-send-T : goal.serve_in-requires-send-T
serve_in-requires-send-T g c κs within = let sends : IsSend (param 2 g.row.T) = search in param_send _ _ (given_send 2 _ g.row.T sends)

pub serve_in-requires-send-C : goal.serve_in-requires-send-C
serve_in-requires-send-C g c κs within = let sends : IsSend (param 3 g.row.C) =
    c.requires-raw.1.1.1.1.1.1.1.1.1.1.0 in param_send _ _ (given_send 3 _ g.row.C sends)

pub serve_in-requires-send-K : goal.serve_in-requires-send-K
serve_in-requires-send-K g c κs within = let sends : IsSend (param 5 g.row.K) =
    c.requires-raw.1.1.1.1.1.1.1.1.1.1.1.0 in param_send _ _ (given_send 5 _ g.row.K sends)

pub returns : goal.returns
returns g c = c.serve_in.ensures
