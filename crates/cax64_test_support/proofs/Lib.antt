mod Meters
