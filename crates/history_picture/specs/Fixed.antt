-- For the prover, and for callers.
-- The text of a page that is the program's own.
use Rattle.std.specs.Prelude.{ℕ, List, codes}
use Rattle.history_picture.specs.declared.fixed.Fixed.{Fixed}
use Rattle.history_picture.specs.declared.fixed.Fixed.TheVariants as variants
use Rattle.history_picture.specs.declared.fixed.TheConstants.{BEGINNING, STYLE, LEGEND, HATCH, TABLE}

-- each begins and ends outside of a tag, a style and a script
abbrev pub fixed_words : Fixed → List ℕ
fixed_words variants.Beginning = BEGINNING.now
fixed_words variants.Style = STYLE.now
fixed_words variants.Legend = LEGEND.now
fixed_words variants.Range = codes "<p>Events "
fixed_words variants.To = codes " to "
fixed_words variants.Of = codes " of "
fixed_words variants.NotDrawn = codes ". A picture has at most 2,000 events: not drawn are those up to "
fixed_words variants.LeftOut = codes ". Calls that were under way all the time, and aren't drawn: "
fixed_words variants.EndRange = codes ".</p>\n<div class=\"scroll\">\n"
fixed_words variants.Names = codes "<g id=\"names\">\n"
fixed_words variants.NamesAgain = codes "<use href=\"#names\"/>\n"
fixed_words variants.EndSvg = codes "</svg>\n"
fixed_words variants.Hatch = HATCH.now
fixed_words variants.Title = codes "<title>"
fixed_words variants.EndTitle = codes "</title>\n"
fixed_words variants.LineFeed = codes "\n"
fixed_words variants.Lane = codes "lane "
fixed_words variants.Call = codes "call "
fixed_words variants.Crash = codes "crash, event "
fixed_words variants.Place = codes "<tspan class=\"place\">"
fixed_words variants.EndPlace = codes "</tspan> "
fixed_words variants.Space = codes " "
fixed_words variants.Dots = codes ".."
fixed_words variants.EndLabel = codes "</text>\n"
fixed_words variants.EndGroup = codes "</g>\n"
fixed_words variants.Table = TABLE.now
fixed_words variants.Cell = codes "</td><td>"
fixed_words variants.NoReply = codes "no reply"
fixed_words variants.Lost = codes ", lost"
fixed_words variants.Asked = codes "asked for"
fixed_words variants.AtFault = codes "at fault"
fixed_words variants.Explains = codes "explains it"
fixed_words variants.EndRow = codes "</td></tr>\n"
fixed_words variants.End = codes "</tbody>\n</table>\n</body>\n</html>\n"
