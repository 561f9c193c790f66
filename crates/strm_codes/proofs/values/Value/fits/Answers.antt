use Rattle.strm_codes.proofs.FieldTypeLemmas.{fits_by_scalars}
use Rattle.strm_codes.proofs.values.Value.fits.Goals as goal

pub returns-in_default : goal.returns-in_default
returns-in_default c =
    let f = rw (c.scalars.ensures.exact, c.as_slice-in_default.ensures.exact) at c.fit_scalars.ensures in
    let by = fits_by_scalars c.args.payload c.args.self.now c.in_default.not-Compound in
    ((λ t. by.0 (f.0 t)), (λ i. f.1 (by.1 i)))
