-- The promises of specs/Promises.antt.
-- Assumes nothing.
use Rattle.effects.specs.Promises.{QuadHalves, UnlikeHalves}
use Rattle.effects.proofs.Effects.{quad-halves, unlike-halves}

pub quad_halves : QuadHalves
quad_halves op t a b file s g = quad-halves op t a b file s g

pub unlike_halves : UnlikeHalves
unlike_halves op w r file small g = unlike-halves op w r file small g
