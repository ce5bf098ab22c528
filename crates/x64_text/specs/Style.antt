use Rattle.std.specs.Prelude.{ℕ, slice_index_or}
use Rattle.x64_text.specs.declared.style.Style.{Style}
use Rattle.x64_text.specs.declared.style.Style.TheVariants.{Plain}
use Rattle.x64_text.specs.declared.style.TheConstants.{STYLES}

-- How a line prints, by its number.

abbrev pub style_of : ℕ → Style
style_of number = slice_index_or STYLES number Plain
