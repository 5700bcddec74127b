mod Nights
